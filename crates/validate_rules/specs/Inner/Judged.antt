-- What the code's answers stand for.
use Rattle.std.specs.Prelude.{List, [], ◌∷◌}
use Rattle.std.specs.Prelude as prelude
use Rattle.std.proofs.Math.Option.{Option, none, some}
use Rattle.validate_rules.specs.declared.finding.Rule.{Rule}
use Rattle.validate_rules.specs.declared.finding.Finding.{Finding}

abbrev pub rule_of : prelude.Option Rule → Option Rule
rule_of (prelude.Some r) = some r
rule_of prelude.None = none

abbrev pub as_list : prelude.Option Finding → List Finding
as_list prelude.None = []
as_list (prelude.Some f) = f ∷ []

abbrev pub group_of : prelude.Option (Finding × prelude.Option Finding) → List Finding
group_of prelude.None = []
group_of (prelude.Some (f, w)) = f ∷ as_list w
