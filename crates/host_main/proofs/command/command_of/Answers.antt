use Rattle.std.proofs.Common.{◌≡◌, ◌∙◌, sym, codes}
use Rattle.std.proofs.lemmas.Slice.Eq.{slice_eq-Decides}
use Rattle.std.proofs.lemmas.Bool.Decides.{Decides-eqb}
use Rattle.host_main.proofs.Words.{two_words, three_words}
use Rattle.host_main.proofs.command.command_of.Goals as goal

pub returns-in-len2-clause-some : goal.returns-in-len2-clause-some
returns-in-len2-clause-some c =
    let check = slice_eq-Decides Decides-eqb _ _ _ c.eq.ensures in
    let word : c.command-item.result ≡ codes "check" = sym c.as_str.ensures ∙ check.0 c.if-eq.true in
    rw (← word) (two_words _ _ _ c.in-len2.len_at_least c.in-len2.len_below c.command-item.is c.bundle-item.is)

pub returns-in-len3-clause-some : goal.returns-in-len3-clause-some
returns-in-len3-clause-some c =
    let render = slice_eq-Decides Decides-eqb _ _ _ c.eq-then-words-lt4.ensures in
    let word : c.command-item-then-words-lt4.result ≡ codes "render" = sym c.as_str-then-words-lt4.ensures ∙ render.0 c.if-eq-2.true in
    rw (← word) (three_words _ _ _ _ c.in-len3.len_at_least c.in-len3.len_below c.command-item-then-words-lt4.is c.session-item.is c.name-item.is)
