use Rattle.std.proofs.Common.{◌≡◌, fold, ◌∙◌, arith}
use Rattle.std.proofs.lemmas.Grind.{common_steps}
use Rattle.urid_map.specs.Numbers.{with_uri}
use Rattle.vocabulary.specs.Words.{iri_of}
use Rattle.urid_map.proofs.Added.{mapped_in_turn}
use Rattle.urid_map.proofs.urids.Urids.insert_all.Goals as goal

pub returns : goal.returns
returns c =
    let all : c.loop-word.self ≡ fold (λ urids word. with_uri urids (iri_of word)) c.args.self.now c.args.words.now = grind (arith, common_steps) in
    all ∙ mapped_in_turn c.args.self.now c.args.words.now
