-- What a quote or `<` opens can be begun, and each class of its pattern has a character.
use Rattle.std.proofs.Common.{◌≡◌, ℕ, Bool, true, false, cond, List, [], ◌∷◌, codes, Some, None, refl, subst}
use Rattle.turtle_grammar.specs.Characters.{is_digit, is_hex, is_excluded, is_escape}
use Rattle.turtle_grammar.specs.Pattern.{times}
use Rattle.turtle_grammar.specs.Terminals.{pattern, hex, short_code, long_code, uchar, echar, iriref, short_string, long_string}
use Rattle.turtle_grammar.specs.Tokens.{Begins, opened}
use Rattle.turtle_grammar.specs.declared.token.TokenKind.{TokenKind}
use Rattle.turtle_grammar.specs.declared.token.TokenKind.TheVariants.{Iri, String, SingleString, LongSingleString, LongString}
use Rattle.turtle_grammar.proofs.Begun.{Live}
use Rattle.turtle_grammar.proofs.Derivatives.{sound}

hex_live : Live hex
unfolding is_hex is_digit
hex_live = (48, refl)

short_live : Live short_code
unfolding is_hex is_digit
short_live = (((48, refl), (hex_live, (hex_live, hex_live))), (((68, refl), (48, refl)), (hex_live, hex_live)))

four_live : Live (times 4 hex)
four_live = (hex_live, (hex_live, (hex_live, hex_live)))

long_live : Live long_code
unfolding is_hex is_digit
long_live = (((48, refl), (48, refl)), ((((49, refl), (48, refl)), four_live), ((48, refl), (((49, refl), four_live), ((48, refl), short_live)))))

uchar_live : Live uchar
uchar_live = ((92, refl), (((117, refl), short_live), ((85, refl), long_live)))

echar_live : Live echar
unfolding is_escape
echar_live = ((92, refl), (116, refl))

abbrev pub CanBegin : TokenKind → Type 0
CanBegin kind = Live (pattern kind) × Begins (pattern kind) []

iri_can : CanBegin Iri
unfolding pattern iriref is_excluded
iri_can = ((((60, refl), ((97, refl), uchar_live)), (62, refl)), (codes "<>", sound iriref (codes "<>") refl))

string_can : CanBegin String
unfolding pattern short_string
string_can = ((((34, refl), ((97, refl), (echar_live, uchar_live))), (34, refl)), (codes "\"\"", sound (short_string 34) (codes "\"\"") refl))

single_can : CanBegin SingleString
unfolding pattern short_string
single_can = ((((39, refl), ((97, refl), (echar_live, uchar_live))), (39, refl)), (codes "''", sound (short_string 39) (codes "''") refl))

long_can : CanBegin LongString
unfolding pattern long_string
long_can = (
  (
    (((34, refl), ((34, refl), (34, refl))), ((((34, refl), ((34, refl), (34, refl))), tt), ((97, refl), (echar_live, uchar_live)))),
    ((34, refl), ((34, refl), (34, refl))),
  ),
  (codes "\"\"\"\"\"\"", sound (long_string 34) (codes "\"\"\"\"\"\"") refl),
)

long_single_can : CanBegin LongSingleString
unfolding pattern long_string
long_single_can = (
  (
    (((39, refl), ((39, refl), (39, refl))), ((((39, refl), ((39, refl), (39, refl))), tt), ((97, refl), (echar_live, uchar_live)))),
    ((39, refl), ((39, refl), (39, refl))),
  ),
  (codes "''''''", sound (long_string 39) (codes "''''''") refl),
)

-- what is opened can be begun
pub opened_can : (text : List ℕ) (kind : TokenKind) → opened text ≡ Some kind → CanBegin kind
opened_can text kind e = by _ _ _ _ _ e
  where
    kind_is : (k : TokenKind) → CanBegin k → Some k ≡ Some kind → CanBegin kind
    kind_is k can e = let same : k ≡ kind = cc in subst CanBegin same can

    by : (a b c d f : Bool) → cond a (Some Iri) (cond b (Some LongString) (cond c (Some LongSingleString) (cond d (Some String) (cond f (Some SingleString) None)))) ≡ Some kind → CanBegin kind
    by true b c d f e = kind_is Iri iri_can e
    by false true c d f e = kind_is LongString long_can e
    by false false true d f e = kind_is LongSingleString long_single_can e
    by false false false true f e = kind_is String string_can e
    by false false false false true e = kind_is SingleString single_can e
    by false false false false false e = cc

never_none : (b : Bool) (x y : TokenKind) → cond b (Some x) (Some y) ≡ None → ⊥
never_none true x y e = cc
never_none false x y e = cc

-- each of these characters opens something
pub angle_opens : (rest : List ℕ) → opened (60 ∷ rest) ≡ None → ⊥
angle_opens rest e = cc

pub quote_opens : (rest : List ℕ) → opened (34 ∷ rest) ≡ None → ⊥
quote_opens rest e = never_none _ LongString String e

pub apostrophe_opens : (rest : List ℕ) → opened (39 ∷ rest) ≡ None → ⊥
apostrophe_opens rest e = never_none _ LongSingleString SingleString e
