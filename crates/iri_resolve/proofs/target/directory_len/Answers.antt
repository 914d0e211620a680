use Rattle.std.proofs.Common.{Some, None, ap, sym, take}
use Rattle.iri_resolve.specs.Dots.{is_slash}
use Rattle.iri_resolve.proofs.First.{last_end}
use Rattle.iri_resolve.proofs.target.directory_len.Goals as goal

pub returns-in-Some-clause-value : goal.returns-in-Some-clause-value
returns-in-Some-clause-value c =
    ap (λ n. take n c.args.path.now) (sym (last_end is_slash c.args.path.now (Some c.in-Some.at) c.in-Some.ensures))

pub returns-in-None-clause-value : goal.returns-in-None-clause-value
returns-in-None-clause-value c =
    ap (λ n. take n c.args.path.now) (sym (last_end is_slash c.args.path.now None c.in-None.ensures))
