use Rattle.std.proofs.Common.{◌≡◌, ◌≤◌, ◌+◌, length, take, fold}
use Rattle.urid_map.specs.Numbers.{with_uri}
use Rattle.vocabulary.specs.Words.{iri_of}
use Rattle.urid_map.proofs.urids.Urids.insert_all.Given as goal

-- those so far are mapped
abbrev pub invariant-loop-word : goal.invariant-loop-word
invariant-loop-word l =
    (l.self ≡ fold (λ urids word. with_uri urids (iri_of word)) l.fn.self (take l.word-index l.words)) × (length l.self ≤ length l.fn.self + l.word-index)
