-- What a position of the search stands for: the findings that are still to come.
use Rattle.std.specs.Prelude.{Option, Some, None, Result, Ok, Err}
use Rattle.format.specs.declared.refusal.Refusal.{Refusal}
use Rattle.slice.specs.declared.cursor.Cursor.{Cursor}
use Rattle.std.specs.Prelude.{ℕ, zero, suc, ◌+◌, ◌-◌, Bool, true, false, cond, List, [], ◌∷◌, ◌++◌, drop, set, replicate, ltb}
use Rattle.format.specs.declared.limits.ResourceLimits.{ResourceLimits}
use Rattle.format.specs.Form.{Bytes}
use Rattle.format.specs.ReadFields.{field}
use Rattle.read_field.specs.Shown.{shown}
use Rattle.read_next.specs.declared.Row.{Row}
use Rattle.read_next.specs.Inner.Rows.{LEVELS, rows_from}
use Rattle.validate_rules.specs.declared.finding.Finding.{Finding}
use Rattle.validate_rules.specs.declared.finding.Bounds.{Bounds}
use Rattle.validate_search.specs.declared.scan.Code.{Code}
use Rattle.validate_search.specs.declared.search.Position.{Position}
use Rattle.validate_search.specs.declared.search.Step.{Step}
use Rattle.validate_search.specs.declared.search.Step.TheVariants.{Found, Done}
use Rattle.validate_rules.specs.Inner.Judged.{as_list}
use Rattle.validate_rules.specs.Findings.{code_groups, Listing, ended, prepend, limited}

-- ## Instructions
abbrev pub on_word : {R : Type 0} → Result (ℕ × Cursor) Refusal → R → (ℕ → ℕ → R) → R
on_word (Ok (word, next)) bad good = good word next.at
on_word (Err q) bad good = bad

-- n words from a place on, or fewer where the bytes end
unfoldable pub words_at : Bytes → ℕ → ℕ → List ℕ
words_at s zero at = []
words_at s (suc n) at = on_word (shown (field 4 at (drop at s))) [] (λ word to. word ∷ words_at s n to)

-- the groups of the instructions that are left
unfoldable pub code_left : Bytes → Code → List (List Finding)
code_left s c = code_groups c.function c.bounds (words_at s (c.bounds.instructions - c.pc) c.place.at) c.pc

abbrev pub code_at : Bounds → ℕ → ℕ → ℕ → Code
code_at b k place pc = record { bounds = b; function = k; place = record { at = place }; pc = pc }

-- without the empty groups in front
unfoldable pub skip : List (List Finding) → List (List Finding)
skip [] = []
skip ([] ∷ gs) = skip gs
skip ((f ∷ g) ∷ gs) = (f ∷ g) ∷ gs

abbrev pub scanned : Bytes → Option (Finding × Option Finding × Code) → List (List Finding)
scanned s (Some (f, w, behind)) = (f ∷ as_list w) ∷ code_left s behind
scanned s None = []

-- ## Functions
abbrev pub row_bounds : Row → Bounds
row_bounds row = record {
  maxstacksize = row.sizes.maxstacksize;
  instructions = row.instructions;
  constants = row.constants;
  upvalues = row.upvalues;
  protos = row.protos;
}

abbrev pub next_number : ℕ → ℕ
next_number k = cond (ltb k 18446744073709551615) (k + 1) k

-- the groups of functions, by their rows, of which the first has the number k
unfoldable pub row_groups : Bytes → ℕ → List Row → List (List Finding)
row_groups s k [] = []
row_groups s k (row ∷ rows) = [] ∷ (code_groups k (row_bounds row) (words_at s row.instructions row.instructions_at) 0 ++ row_groups s (next_number k) rows)

abbrev pub of_rows : ResourceLimits → Bytes → Position → List (List Finding)
of_rows L s p = row_groups s p.number (rows_from L s p.left p.depth p.at.at)

-- the groups that are left: those of this function, and those of the functions still to come
abbrev pub groups_left : ResourceLimits → Bytes → Position → List (List Finding)
groups_left L s p = code_left s p.code ++ of_rows L s p

abbrev pub any_left : List (List Finding) → Bool
any_left [] = false
any_left (g ∷ gs) = true

-- what comes behind the finding that waits
abbrev pub goes_on : ResourceLimits → Bytes → ℕ → Position → Listing
goes_on L s max p = limited max p.found (groups_left L s p)

-- WHAT A POSITION STANDS FOR
unfoldable pub out_of : ResourceLimits → Bytes → ℕ → Position → Listing
out_of L s max p = prepend (as_list p.waiting) (goes_on L s max p)

-- what a step says: a finding and what the next position stands for, or the end
abbrev pub stepped : ResourceLimits → Bytes → ℕ → Step → Listing
stepped L s max (Found f next) = prepend (f ∷ []) (out_of L s max next)
stepped L s max (Done b) = ended b

-- the position before everything: one function is left at the top level, at a place, and there are some diagnostics already
unfoldable pub start_position : ℕ → ℕ → Position
start_position place diagnostics = record {
  left = set (replicate (LEVELS + 1) 0) 0 1;
  depth = 0;
  at = record { at = place };
  number = 0;
  code = record {
    bounds = record { maxstacksize = 0; instructions = 0; constants = 0; upvalues = 0; protos = 0 };
    function = 0;
    place = record { at = place };
    pc = 0;
  };
  found = diagnostics;
  waiting = None;
}
