-- `c_boundary::refused` meets its contract: number and place of what is reported. Assumes nothing.
use mathlib.Core.Path.{◌∙◌, ap}
use Rattle.c_boundary.specs.Status.{with_place}
use Rattle.c_boundary.proofs.refused.Goals as goal

pub returns : goal.returns
returns c = c.with_place.ensures ∙ ap (λ r. with_place r.number r.place) c.report_refusal-report.ensures
