-- The findings once more, as validator.rs has them: a list and a flag, tested before each function and each instruction. `warnings` says how many the reading has, with which
-- the Rust's list begins. (Its header tests cannot fail: the reader refuses other sizes. Its functions are a tree, gone through in the order of our list.)
--     validate r       the list and the flag of `validate_chunk_lua54`.       `proofs/RustLaws.antt`: they are `chunk_findings r`
use Rattle.std.specs.Prelude.{true, false, ◌||◌, cond, List, [], ◌∷◌, ◌++◌, ℕ, ◌+◌, length, leb, ltb}
use Rattle.format.specs.Reading.{Prototype, Reading}
use Rattle.validate_rules.specs.declared.finding.Finding.{Finding}
use Rattle.validate_rules.specs.declared.finding.Bounds.{Bounds}
use Rattle.validate_rules.specs.Rules.{instruction}
use Rattle.validate_rules.specs.Findings.{MAX-DIAGNOSTICS, bounds_of, Listing}

abbrev pub halt : Listing → Listing
halt so_far = record { findings = so_far.findings; stopped = true }

abbrev pub push : Listing → List Finding → Listing
push so_far g = record { findings = so_far.findings ++ g; stopped = so_far.stopped }

module _ (max warnings : ℕ) where
  -- `diagnostics.len()`
  abbrev pub len : Listing → ℕ
  len so_far = warnings + length so_far.findings

  -- `for inst in &proto.instructions`
  unfoldable pub over_code : ℕ → Bounds → List ℕ → ℕ → Listing → Listing
  over_code k b [] pc so_far = so_far
  over_code k b (word ∷ words) pc so_far =
      cond (leb max (len so_far)) (halt so_far)
      (over_code k b words (pc + 1) (push so_far (instruction k b pc word)))

  -- `validate_proto_lua54`, function after function
  unfoldable pub over_functions : ℕ → List Prototype → Listing → Listing
  over_functions k [] so_far = so_far
  over_functions k (p ∷ ps) so_far =
      cond (so_far.stopped || leb max (len so_far)) (halt so_far)
      (over_functions (k + 1) ps (over_code k (bounds_of p) p.instructions 0 so_far))

  -- `limit_reached || diagnostics.len() > MAX_DIAGNOSTICS`
  abbrev pub closed : Listing → Listing
  closed all = record { findings = all.findings; stopped = all.stopped || ltb max (len all) }

  -- `let mut limit_reached = diagnostics.len() >= MAX_DIAGNOSTICS; if !limit_reached { .. }`
  unfoldable pub over_chunk : List Prototype → Listing
  over_chunk ps = closed (cond (leb max warnings) (record { findings = []; stopped = true }) (over_functions 0 ps (record { findings = []; stopped = false })))

unfoldable pub validate : Reading → Listing
validate r = over_chunk MAX-DIAGNOSTICS (length r.warnings) r.functions
