-- The ceilings of the nine limits (01, 'Limits'; that of nesting: 02, item 5).
--     DEEPEST, MOST        the ceiling of nesting, and that of lengths and counts
--     ceilings             the largest limits
--     within_ceilings l     no limit of l is above its ceiling: the test behind refusal 21
--     Walkable l           so few functions and instructions in all that a walk can count them
use Rattle.std.specs.Prelude.{Bool, ◌&&◌, leb, ℕ, ◌≤◌}
use Rattle.format.specs.declared.limits.ResourceLimits.{ResourceLimits}

abbrev pub DEEPEST : ℕ
DEEPEST = 14

abbrev pub MOST : ℕ
MOST = 16777216

abbrev pub ceilings : ResourceLimits
ceilings = record {
  max_input_bytes = MOST;
  max_nesting_depth = DEEPEST;
  max_total_prototypes = MOST;
  max_instructions_per_proto = MOST;
  max_total_instructions = MOST;
  max_constants_per_proto = MOST;
  max_upvalues_per_proto = MOST;
  max_string_bytes = MOST;
  max_diagnostics = 10000;
}

abbrev pub within_ceilings : ResourceLimits → Bool
within_ceilings l =
    leb l.max_input_bytes ceilings.max_input_bytes
    && leb l.max_nesting_depth ceilings.max_nesting_depth
    && leb l.max_total_prototypes ceilings.max_total_prototypes
    && leb l.max_instructions_per_proto ceilings.max_instructions_per_proto
    && leb l.max_total_instructions ceilings.max_total_instructions
    && leb l.max_constants_per_proto ceilings.max_constants_per_proto
    && leb l.max_upvalues_per_proto ceilings.max_upvalues_per_proto
    && leb l.max_string_bytes ceilings.max_string_bytes
    && leb l.max_diagnostics ceilings.max_diagnostics

abbrev pub Walkable : ResourceLimits → Type 0
Walkable l = (l.max_total_prototypes ≤ MOST) × (l.max_total_instructions ≤ MOST)
