-- `c_finding::put_finding` meets its contract: four stores are one piece. Assumes nothing.
use Rattle.slice.proofs.Splices.{splice_four}
use Rattle.c_finding.proofs.put_finding.Goals as goal

pub returns : goal.returns
returns c = rw (c.offending_number.ensures, c.rule_number.ensures) (splice_four c.args.at _ _ _ _ c.args.list.now c.requires)
