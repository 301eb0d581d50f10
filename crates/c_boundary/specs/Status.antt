-- Limits, refusals and answers as C sees them: numbers.
--     limits_of l           the nine limits, in the order of `ResourceLimits`
--     coded q              a refusal: 01's number in the low eight bits; above them the place and one, or 0 where there is no place. (A place of 2^32 or more would be left out. A refusal of a chunk has none: crates/demands/proofs/Demand1.antt, `places`. A part asked for at such a place can have one.)
--     status a             what a call returns: 0, or the refusal
--     written a old        what then stands in the array that held `old`
--     admitted L s a       the answer a behind 21 and 22: of the calls that do not read the whole chunk
--     admits L s           the limits behind 21 and 22
--     in_numbers r         an answer of the code in numbers
--     complement z         a signed number in 64 bits
use Rattle.std.specs.Prelude.{Option, Some, None, Result, Ok, Err}
use Rattle.std.specs.Prelude.{cond, List, ℕ, ◌+◌, ◌*◌, ◌^◌, leb, length, get_or, ℤ}
use Rattle.std.specs.Int.{w64}
use Rattle.std.proofs.Common.{of_z}
use Rattle.format.specs.declared.limits.ResourceLimits.{ResourceLimits}
use Rattle.format.specs.declared.refusal.Refusal.{Refusal}
use Rattle.format.specs.declared.refusal.Refusal.TheVariants.{LimitAboveCeiling, InputBytes}
use Rattle.format.specs.Form.{Bytes}
use Rattle.format.specs.Limits.{within_ceilings}
use Rattle.format.specs.Refusals.{reported}

abbrev pub limits_of : List ℕ → ResourceLimits
limits_of l = record {
  max_input_bytes = get_or l 0 0;
  max_nesting_depth = get_or l 1 0;
  max_total_prototypes = get_or l 2 0;
  max_instructions_per_proto = get_or l 3 0;
  max_total_instructions = get_or l 4 0;
  max_constants_per_proto = get_or l 5 0;
  max_upvalues_per_proto = get_or l 6 0;
  max_string_bytes = get_or l 7 0;
  max_diagnostics = get_or l 8 0;
}

abbrev pub with_place : ℕ → Option ℕ → ℕ
with_place n None = n
with_place n (Some at) = cond (leb (2 ^ 32) at) n (n + 256 * (at + 1))

abbrev pub coded : Refusal → ℕ
coded q = with_place (reported q).number (reported q).place

-- an answer in numbers
pub data Answer : Type 0 where
  done : List ℕ → Answer
  refuses : Refusal → Answer

abbrev pub status : Answer → ℕ
status (done l) = 0
status (refuses q) = coded q

abbrev pub written : Answer → List ℕ → List ℕ
written (done l) old = l
written (refuses q) old = old

-- 21 where a limit is above its ceiling, else 22 where the chunk is longer than the input limit, else the answer (01, 'Order'; `read` of crates/format/specs/ReadChunk.antt begins so)
abbrev pub admitted : ResourceLimits → Bytes → Answer → Answer
admitted l s a = cond (within_ceilings l) (cond (leb (length s) l.max_input_bytes) a (refuses InputBytes)) (refuses LimitAboveCeiling)

-- the same of the limits alone, and an answer of the code in numbers
abbrev pub admits : ResourceLimits → Bytes → Result ResourceLimits Refusal
admits l s = cond (within_ceilings l) (cond (leb (length s) l.max_input_bytes) (Ok l) (Err InputBytes)) (Err LimitAboveCeiling)

abbrev pub in_numbers : Result (List ℕ) Refusal → Answer
in_numbers (Ok l) = done l
in_numbers (Err q) = refuses q

-- the two's complement, as the language has it: z itself from 0 up, and 2^64 + z below
abbrev pub complement : ℤ → ℕ
complement z = of_z w64 z
