-- The text of states is a document, and these are its triples.
use Rattle.std.proofs.Common.{◌≡◌, ℕ, ◌^◌, ◌<◌, List, [], ◌∷◌, length, codes, refl, sym, ◌∙◌, subst, arith}
use Rattle.std.specs.List.{AllByRecursion}
use Rattle.std.specs.Str.{chars}
use Rattle.state_file.specs.StateText.{state_text}
use Rattle.state_file.specs.declared.saved.Saved.{Saved}
use Rattle.turtle_grammar.specs.Tokens.{start_of, Lexes}
use Rattle.turtle_grammar.specs.Tokens.Answer.{end}
use Rattle.turtle_document.specs.Answer.{IsReadAs, HasTokens, Means, lexemes_of}
use Rattle.turtle_document.specs.Answer.Outcome.{document}
use Rattle.turtle_document.specs.Meaning.{beginning}
use Rattle.turtle_words.specs.Words.{written, tokens_from}
use Rattle.turtle_words.proofs.Lexing.{falls_into_words, written_utf8}
use Rattle.state_round.specs.RoundTrip.{IsSaved, AreSaved}
use Rattle.state_round.proofs.Words.{file_words}
use Rattle.state_round.proofs.Order.{Rise, rise_from}
use Rattle.state_round.proofs.Text.{file_written}
use Rattle.state_round.proofs.Tree.{places_from, lexemes_are, file_tree, file_put}
use Rattle.state_round.proofs.Rows.{states_rows}
use Rattle.state_round.proofs.Ready.{IsWhole, file_ready, next_line}
use Rattle.state_round.proofs.Meant.{state}
use Rattle.state_round.proofs.Said.{last_blank, few, file_read}

pub all_rise : (urids : List (List ℕ)) (saves : List Saved) → AllByRecursion (IsSaved urids) saves → AllByRecursion (λ (saved : Saved). Rise saved.props) saves
all_rise urids [] all = tt
all_rise urids (saved ∷ saves) all = (rise_from saved.props all.0.storable.rising, all_rise urids saves all.1)

begins_at : (urids : List (List ℕ)) (saves : List Saved) → start_of (written (file_words urids saves) (codes "\n")) ≡ 0
unfolding chars
begins_at urids saves = refl

file_tokens : (urids : List (List ℕ)) (saves : List Saved) → AreSaved urids saves → HasTokens (written (file_words urids saves) (codes "\n")) (tokens_from 0 (file_words urids saves)) end
file_tokens urids saves are =
    let low : length saves < 2 ^ 64 = let less = few saves in let room = are.room in omega (arith, less, room) in
    let whole : IsWhole (file_words urids saves) (codes "\n") = file_ready urids saves low are.each in (
      written_utf8 (file_words urids saves) (codes "\n") whole.tokens next_line.0,
      subst (λ (at : ℕ). Lexes (written (file_words urids saves) (codes "\n")) at (tokens_from 0 (file_words urids saves)) end) (sym (begins_at urids saves)) (falls_into_words [] (file_words urids saves) (codes "\n") whole.tokens whole.spaced),
    )

file_means : (base : List ℕ) (urids : List (List ℕ)) (saves : List Saved) → AreSaved urids saves
    → Means (beginning base []) (lexemes_of (written (file_words urids saves) (codes "\n")) (tokens_from 0 (file_words urids saves))) (state base (last_blank 0 urids saves) (states_rows base 0 0 urids saves))
file_means base urids saves are = (
  file_tree (places_from 0 (file_words urids saves)) urids saves,
  file_put (places_from 0 (file_words urids saves)) urids saves ∙ sym (lexemes_are (written (file_words urids saves) (codes "\n")) [] (file_words urids saves) (codes "\n") 0 refl refl),
  file_read (places_from 0 (file_words urids saves)) urids saves base are.each are.room,
)

pub file_is_read : (base : List ℕ) (urids : List (List ℕ)) (saves : List Saved) → AreSaved urids saves → IsReadAs (beginning base []) (state_text urids saves) (document (states_rows base 0 0 urids saves))
file_is_read base urids saves are =
    subst (λ (bytes : List ℕ). IsReadAs (beginning base []) bytes (document (states_rows base 0 0 urids saves))) (file_written urids saves (all_rise urids saves are.each))
    (tokens_from 0 (file_words urids saves), file_tokens urids saves are, (state base (last_blank 0 urids saves) (states_rows base 0 0 urids saves), file_means base urids saves are, refl))
