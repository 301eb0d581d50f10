-- The list that is filled: as long as there can be findings, of records that mean nothing.
use Rattle.std.specs.Prelude.{ℕ, ◌+◌, List, replicate}
use Rattle.validate_rules.specs.Findings.{MAX-DIAGNOSTICS}
use Rattle.validate_rules.specs.declared.finding.Finding.{Finding}
use Rattle.validate_rules.specs.declared.finding.Rule.TheVariants.{Register}

-- the last instruction may add two: there are at most 10,001 findings (crates/validate_search/proofs/Few.antt, `findings_few`)
abbrev pub LONGEST : ℕ
LONGEST = MAX-DIAGNOSTICS + 1

unfoldable pub blank_list : List Finding
blank_list = replicate LONGEST (record { function = 0; pc = 0; rule = Register 0 })
