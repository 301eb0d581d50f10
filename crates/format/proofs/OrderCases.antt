-- Worked cases of the order of refusals (01, 'Order'): limits, inputs, and the number and place of the refusal, in a list; and one theorem over the list, which antt computes.
-- Each number from 1 to 22 is there; two conditions hold of most inputs, and for each order of two there is a case that tells them apart.
-- Assumes nothing.
use mathlib.Core.Path.{◌≡◌, refl}
use mathlib.Core.List.{List, [], ◌∷◌, ◌++◌, map}
use mathlib.Core.Option.{Option, none, some}
use Prim.Native.Nat.{ℕ}
use lib.ListN.{length, replicate, set, take}
use Rattle.format.specs.declared.limits.ResourceLimits.{ResourceLimits}
use Rattle.format.specs.declared.refusal.Report.{Report}
use Rattle.format.specs.Form.{Bytes}
use Rattle.format.specs.Refusals.{bare, placed, reported}
use Rattle.format.specs.ReadChunk.{body, function, Outcome, shown, refusal, read}

-- ## Inputs
-- the header, byte 31, and main's source (absent), lines and three bytes: main's first count stands at 38
main : Bytes
main =
    0x1b ∷ 0x4c ∷ 0x75 ∷ 0x61 ∷ 0x54 ∷ 0 ∷ 0x19 ∷ 0x93 ∷ 0x0d ∷ 0x0a ∷ 0x1a ∷ 0x0a ∷ 4 ∷ 8 ∷ 8
    ∷ 0x78 ∷ 0x56 ∷ 0 ∷ 0 ∷ 0 ∷ 0 ∷ 0 ∷ 0 ∷ 0 ∷ 0 ∷ 0 ∷ 0 ∷ 0 ∷ 0x28 ∷ 0x77 ∷ 0x40
    ∷ 0 ∷ 0x80 ∷ 0x80 ∷ 0x80 ∷ 0 ∷ 0 ∷ 2 ∷ []

-- a nested function up to its first count
nested : Bytes
nested = 0x80 ∷ 0x80 ∷ 0x80 ∷ 0 ∷ 0 ∷ 2 ∷ []

-- no instructions, constants and upvalues, and one nested function: the count of nested functions is the last of these four bytes
one : Bytes
one = 0x80 ∷ 0x80 ∷ 0x80 ∷ 0x81 ∷ []

-- no entries behind the nested functions
rest : Bytes
rest = replicate 4 0x80

-- a function without entries
leaf : Bytes
unfolding nested
leaf = nested ++ replicate 8 0x80

-- 01's 46 bytes
small : Bytes
unfolding main
small = main ++ replicate 8 0x80

-- main with the words 1 and 2
words : Bytes
unfolding main
words = main ++ 0x82 ∷ 1 ∷ 0 ∷ 0 ∷ 0 ∷ 2 ∷ 0 ∷ 0 ∷ 0 ∷ replicate 7 0x80

-- main, a function in it (at 42), and one in that (at 52)
chain : Bytes
unfolding main one nested rest leaf
chain = main ++ one ++ nested ++ one ++ leaf ++ rest ++ rest

-- digits that spell 2^57 − 1: the byte behind them shows that their number is too large
large : Bytes
large = 1 ∷ replicate 8 0x7f

-- ## Limits
-- input 200, upvalues 1, diagnostics at their ceiling; the others as given: instructions a function and in all, nesting, nested functions in all, string bytes, constants
limits : ℕ → ℕ → ℕ → ℕ → ℕ → ℕ → ResourceLimits
limits own all nesting total bytes constants = record {
  max_input_bytes = 200;
  max_nesting_depth = nesting;
  max_total_prototypes = total;
  max_instructions_per_proto = own;
  max_total_instructions = all;
  max_constants_per_proto = constants;
  max_upvalues_per_proto = 1;
  max_string_bytes = bytes;
  max_diagnostics = 10000;
}

-- room for all of these inputs
wide : ResourceLimits
unfolding limits
wide = limits 9 9 9 9 9 9

-- ## The cases
record Case : Type 0 where
  under : ResourceLimits
  input : Bytes
  result : Option Report

cases : List Case
unfolding main nested one rest leaf small words chain large limits wide
cases =
    -- 14, then 15, at the count of instructions: both; 15 alone; 14 alone; neither
    record { under = limits 1 1 9 9 9 9; input = words; result = some (placed 14 38) }
    ∷ record { under = limits 2 1 9 9 9 9; input = words; result = some (placed 15 38) }
    ∷ record { under = limits 1 2 9 9 9 9; input = words; result = some (placed 14 38) }
    ∷ record { under = limits 2 2 9 9 9 9; input = words; result = none }
    -- 19, then 20, where the grandchild begins: both; 20 alone; 19 alone; neither
    ∷ record { under = limits 9 9 1 1 9 9; input = chain; result = some (placed 19 52) }
    ∷ record { under = limits 9 9 2 1 9 9; input = chain; result = some (placed 20 52) }
    ∷ record { under = limits 9 9 1 2 9 9; input = chain; result = some (placed 19 52) }
    ∷ record { under = limits 9 9 2 2 9 9; input = chain; result = none }
    -- 19 and 20 before anything of the nested function: where the file ends, and where its source is too long; and without them that is what is refused
    ∷ record { under = limits 9 9 0 9 9 9; input = main ++ one; result = some (placed 19 42) }
    ∷ record { under = limits 9 9 1 9 9 9; input = main ++ one; result = some (placed 1 42) }
    ∷ record { under = limits 9 9 2 1 9 9; input = main ++ one ++ nested ++ one; result = some (placed 20 52) }
    ∷ record { under = limits 9 9 2 2 9 9; input = main ++ one ++ nested ++ one; result = some (placed 1 52) }
    ∷ record { under = limits 9 9 0 9 0 9; input = main ++ one ++ 0x8a ∷ []; result = some (placed 19 42) }
    ∷ record { under = limits 9 9 1 9 0 9; input = main ++ one ++ 0x8a ∷ []; result = some (placed 13 42) }
    -- 18 at the count before 19 at the place behind it
    ∷ record { under = limits 9 9 0 0 9 9; input = main ++ one; result = some (placed 18 41) }
    -- a limit before what is missing behind it (01's trap): a count, a string's size; one less is cut short
    ∷ record { under = limits 9 9 9 9 9 1; input = main ++ 0x80 ∷ 0x82 ∷ []; result = some (placed 16 39) }
    ∷ record { under = limits 9 9 9 9 9 2; input = main ++ 0x80 ∷ 0x82 ∷ []; result = some (placed 1 40) }
    ∷ record { under = wide; input = main ++ 0x80 ∷ 0x80 ∷ 0x82 ∷ []; result = some (placed 17 40) }
    ∷ record { under = wide; input = main ++ 0x80 ∷ 0x80 ∷ 0x81 ∷ []; result = some (placed 1 41) }
    ∷ record { under = limits 1 9 9 9 9 9; input = main ++ 0x82 ∷ []; result = some (placed 14 38) }
    ∷ record { under = limits 2 1 9 9 9 9; input = main ++ 0x82 ∷ []; result = some (placed 15 38) }
    ∷ record { under = limits 2 2 9 9 9 9; input = main ++ 0x82 ∷ []; result = some (placed 1 39) }
    ∷ record { under = limits 9 9 9 9 1 9; input = take 32 main ++ 0x83 ∷ []; result = some (placed 13 32) }
    ∷ record { under = limits 9 9 9 9 2 9; input = take 32 main ++ 0x83 ∷ []; result = some (placed 1 33) }
    -- the earlier of two counts, each above its limit
    ∷ record { under = limits 9 9 9 9 9 0; input = main ++ 0x80 ∷ 0x81 ∷ 0 ∷ 0x82 ∷ replicate 11 0x80; result = some (placed 16 39) }
    ∷ record { under = limits 9 9 9 9 9 1; input = main ++ 0x80 ∷ 0x81 ∷ 0 ∷ 0x82 ∷ replicate 11 0x80; result = some (placed 17 41) }
    -- 12 at the tag, for numbers next to those that there are
    ∷ record { under = wide; input = main ++ 0x80 ∷ 0x81 ∷ 2 ∷ []; result = some (placed 12 40) }
    ∷ record { under = wide; input = main ++ 0x80 ∷ 0x81 ∷ 5 ∷ []; result = some (placed 12 40) }
    ∷ record { under = wide; input = main ++ 0x80 ∷ 0x81 ∷ 6 ∷ []; result = some (placed 12 40) }
    ∷ record { under = wide; input = main ++ 0x80 ∷ 0x81 ∷ 18 ∷ []; result = some (placed 12 40) }
    ∷ record { under = wide; input = main ++ 0x80 ∷ 0x81 ∷ 21 ∷ []; result = some (placed 12 40) }
    -- 12 for tags that are 4 and 20 but for their top bit, though as sizes they would be above the limit of strings
    ∷ record { under = limits 9 9 9 9 0 9; input = main ++ 0x80 ∷ 0x81 ∷ 0x84 ∷ []; result = some (placed 12 40) }
    ∷ record { under = limits 9 9 9 9 0 9; input = main ++ 0x80 ∷ 0x81 ∷ 0x94 ∷ []; result = some (placed 12 40) }
    -- 12 and not 3 behind bytes that would be too large a number and are none: an integer, the content of a string
    ∷ record { under = wide; input = main ++ 0x80 ∷ 0x82 ∷ 3 ∷ replicate 8 0x7f ++ 0xff ∷ []; result = some (placed 12 49) }
    ∷ record { under = wide; input = main ++ 0x80 ∷ 0x82 ∷ 4 ∷ 0x8a ∷ replicate 9 0x7f ++ 0xff ∷ []; result = some (placed 12 51) }
    -- a number that is too large is found at its next byte, whatever that is; without it the file is cut short; one less is no overflow there
    ∷ record { under = wide; input = main ++ large ++ 0x80 ∷ []; result = some (bare 3) }
    ∷ record { under = wide; input = main ++ large ++ 0 ∷ []; result = some (bare 3) }
    ∷ record { under = wide; input = main ++ large; result = some (placed 1 47) }
    ∷ record { under = wide; input = main ++ 1 ∷ replicate 7 0x7f ++ 0x7e ∷ 0xff ∷ []; result = some (placed 14 38) }
    -- 2 before 1: deltas that would end at 2^64 − 1 and at 2^64
    ∷ record { under = wide; input = main ++ replicate 4 0x80 ++ replicate 76 0 ++ 1 ∷ replicate 7 0x7f ++ 0x7e ∷ 0xff ∷ []; result = some (placed 1 128) }
    ∷ record { under = wide; input = main ++ replicate 4 0x80 ++ replicate 77 0 ++ 1 ∷ replicate 7 0x7f ++ 0x7e ∷ 0xff ∷ []; result = some (bare 2) }
    -- 1 where the file ends before a field does; 4 to 11 where it does not
    ∷ record { under = wide; input = 0x1a ∷ []; result = some (placed 1 0) }
    ∷ record { under = wide; input = take 45 small; result = some (placed 1 45) }
    ∷ record { under = wide; input = set (set small 3 0) 4 0; result = some (placed 4 0) }
    ∷ record { under = wide; input = set (set small 4 0) 6 0; result = some (placed 5 4) }
    ∷ record { under = wide; input = set (set small 11 0) 12 0; result = some (placed 6 6) }
    ∷ record { under = wide; input = set (set small 12 0) 13 0; result = some (placed 7 12) }
    ∷ record { under = wide; input = set (set small 13 0) 14 0; result = some (placed 8 13) }
    ∷ record { under = wide; input = set (set small 14 0) 15 0; result = some (placed 9 14) }
    ∷ record { under = wide; input = set (set small 22 1) 23 1; result = some (placed 10 15) }
    ∷ record { under = wide; input = set (set small 30 0) 38 0; result = some (placed 11 23) }
    -- 21, then 22, then the bytes
    ∷ record { under = limits 9 9 15 9 9 9; input = replicate 201 0; result = some (bare 21) }
    ∷ record { under = wide; input = replicate 201 0; result = some (bare 22) }
    ∷ record { under = wide; input = replicate 200 0; result = some (placed 4 0) }
    ∷ record { under = wide; input = small; result = none }
    ∷ []

-- number and place of the refusal that every call begins with, if any
abbrev pub refused_with : Outcome → Option Report
refused_with (shown r) = none
refused_with (refusal q) = some (reported q)

cases_hold : map (λ (c : Case). refused_with (read c.under c.input)) cases ≡ map (λ (c : Case). c.result) cases
unfolding cases read body function main nested one rest leaf small words chain large limits wide
cases_hold = refl
