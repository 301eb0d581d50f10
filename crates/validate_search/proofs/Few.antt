-- There are at most as many findings as the maximum and one more: of a chunk at most 10,001 (`findings_few`).
-- Assumes nothing.
use Rattle.std.specs.Prelude.{Option, Some, None}
use mathlib.Core.Path.{◌≡◌, refl}
use mathlib.Core.Bool.{Bool, true, false, cond}
use mathlib.Core.List.{List, [], ◌∷◌, ◌++◌}
use Prim.Native.Nat.{ℕ, ◌+◌, ◌-◌, ◌≤◌}
use native.Mathlib.Omega.{arith}
use lib.ListN.{length, length-append}
use lib.Dec.{leb}
use borrow.Author.Tests.{leb-true, leb-false, le-leb}
use Rattle.format.specs.declared.limits.ResourceLimits.{ResourceLimits}
use Rattle.format.specs.Form.{Bytes, All}
use Rattle.format.proofs.Every.{all_append}
use Rattle.read_next.specs.declared.Row.{Row}
use Rattle.read_next.specs.Inner.Rows.{rows_from}
use Rattle.validate_rules.specs.declared.finding.Finding.{Finding}
use Rattle.validate_search.specs.declared.scan.Code.{Code}
use Rattle.validate_rules.proofs.FewFindings.{Few, few_code}
use Rattle.format.specs.Reading.{Prototype, Reading}
use Rattle.validate_rules.specs.Findings.{MAX-DIAGNOSTICS, bounds_of, code_groups, groups, ended, prepend, limited, chunk_findings}
use Rattle.validate_search.specs.declared.search.Position.{Position}
use Rattle.validate_rules.specs.Inner.Judged.{as_list}
use Rattle.validate_search.specs.Inner.Position.{words_at, code_left, row_bounds, next_number, row_groups, groups_left, goes_on, out_of}

few_rows : (s : Bytes) (k : ℕ) (rows : List Row) → All Few (row_groups s k rows)
unfolding row_groups
few_rows s k [] = tt
few_rows s k (row ∷ rows) = (omega arith, all_append Few (code_groups k (row_bounds row) (words_at s row.instructions row.instructions_at) 0) (row_groups s (next_number k) rows) (few_code k (row_bounds row) _ 0) (few_rows s (next_number k) rows))

pub few_left : (s : Bytes) (c : Code) (k : ℕ) (rows : List Row) → All Few (code_left s c ++ row_groups s k rows)
unfolding code_left
few_left s c k rows = all_append Few (code_groups c.function c.bounds (words_at s (c.bounds.instructions - c.pc) c.place.at) c.pc) (row_groups s k rows) (few_code c.function c.bounds _ c.pc) (few_rows s k rows)

up_to : (max n : ℕ) (gs : List (List Finding)) → All Few gs → n ≤ max + 1 → length (limited max n gs).findings + n ≤ max + 1
unfolding limited
up_to max n [] few h = omega arith
up_to max n (g ∷ gs) few h = go (leb max n) refl (up_to max (n + length g) gs few.1)
  where
    go : (b : Bool) → leb max n ≡ b → (n + length g ≤ max + 1 → length (limited max (n + length g) gs).findings + (n + length g) ≤ max + 1)
        → length (cond b (ended true) (prepend g (limited max (n + length g) gs))).findings + n ≤ max + 1
    go true e more = omega arith
    go false e more =
        let small = few.0 in
        let room = leb-false max n e in
        let rest = more (omega arith) in
        omega (arith, length-append g (limited max (n + length g) gs).findings)

pub at_most : (max n : ℕ) (gs : List (List Finding)) → All Few gs → length (limited max n gs).findings ≤ max + 1
unfolding limited
at_most max n gs few = go (leb n (max + 1)) refl gs few
  where
    go : (b : Bool) → leb n (max + 1) ≡ b → (gs : List (List Finding)) → All Few gs → length (limited max n gs).findings ≤ max + 1
    go true e gs few = omega (arith, up_to max n gs few (leb-true n (max + 1) e))
    go false e [] few = omega arith
    go false e (g ∷ gs) few = let more = leb-false n (max + 1) e in rw (le-leb max n (omega arith)) (omega arith)

listed-one : (w : Option Finding) → length (as_list w) ≤ 1
listed-one None = omega arith
listed-one (Some f) = omega arith

-- for whatever position
pub few_out : (L : ResourceLimits) (s : Bytes) (max : ℕ) (p : Position) → length (out_of L s max p).findings ≤ max + 2
unfolding out_of
few_out L s max p =
    let one = listed-one p.waiting in
    let rest = at_most max p.found (groups_left L s p) (few_left s p.code p.number (rows_from L s p.left p.depth p.at.at)) in
    omega (arith, length-append (as_list p.waiting) (goes_on L s max p).findings)

few_groups : (k : ℕ) (ps : List Prototype) → All Few (groups k ps)
unfolding groups
few_groups k [] = tt
few_groups k (p ∷ ps) = (omega arith, all_append Few (code_groups k (bounds_of p) p.instructions 0) (groups (k + 1) ps) (few_code k (bounds_of p) p.instructions 0) (few_groups (k + 1) ps))

pub findings_few : (r : Reading) → length (chunk_findings r).findings ≤ 10001
unfolding chunk_findings
findings_few r = at_most MAX-DIAGNOSTICS (length r.warnings) (groups 0 r.functions) (few_groups 0 r.functions)
