-- What stands in a text after several parts were added in turn.
use Rattle.std.proofs.Common.{◌≡◌, ℕ, List, ◌++◌, ap, ◌∙◌, append_assoc}

pub three : (text a b c one two all : List ℕ) → one ≡ text ++ a → two ≡ one ++ b → all ≡ two ++ c → all ≡ text ++ (a ++ (b ++ c))
three text a b c one two all first second third =
    third
    ∙ (ap (λ l. l ++ c) (second ∙ ap (λ l. l ++ b) first)
    ∙ (append_assoc (text ++ a) b c ∙ append_assoc text a (b ++ c)))

pub four : (text a b c d one two three' all : List ℕ) → one ≡ text ++ a → two ≡ one ++ b → three' ≡ two ++ c → all ≡ three' ++ d → all ≡ text ++ (a ++ (b ++ (c ++ d)))
four text a b c d one two three' all first second third fourth =
    three one b c d two three' all second third fourth ∙ (ap (λ l. l ++ (b ++ (c ++ d))) first ∙ append_assoc text a (b ++ (c ++ d)))
