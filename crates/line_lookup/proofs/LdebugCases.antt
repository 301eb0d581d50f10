-- Where 01's line and ldebug.c's part: the smallest input of each way, with both lines, and one theorem over the list, which antt computes.
-- Each breaks a premise of `Compiled` (Ldebug.antt), or the line would be below 0. Last a function that meets them all.
-- Assumes nothing.
use mathlib.Core.Path.{◌≡◌, refl}
use mathlib.Core.List.{List, [], ◌∷◌, ◌++◌, map}
use mathlib.Core.Logic.{inl}
use Prim.Native.Nat.{ℕ, zero, suc, ◌<◌}
use native.Mathlib.Omega.{arith}
use lib.IntN.{ℤ, pos, negsuc}
use lib.ListN.{replicate, get_or}
use Rattle.format.specs.declared.entry.AbsLineInfo.{AbsLineInfo}
use Rattle.format.specs.Form.{Bytes}
use Rattle.line_lookup.specs.Ldebug.{lua_g_getfuncline}
use Rattle.line_lookup.specs.Lines.{raised, line_of}
use Rattle.line_lookup.proofs.Cases.{at}
use Rattle.line_lookup.proofs.Ldebug.{Compiled, same_line}
use Rattle.line_lookup.proofs.Rising.{At}

record Case : Type 0 where
  line_defined : ℕ
  instructions : ℕ
  deltas : Bytes
  anchors : List AbsLineInfo
  pc : ℕ
  -- 01's line, and ldebug.c's
  ours : ℕ
  theirs : ℤ

parted : List Case
parted =
    -- no line information: −1
    record { line_defined = 7; instructions = 1; deltas = []; anchors = []; pc = 0; ours = 0; theirs = negsuc 0 }
    -- the delta at an anchor is not −128: here it is added
    ∷ record { line_defined = 7; instructions = 2; deltas = 0x01 ∷ 0x00 ∷ []; anchors = at 0 9 ∷ []; pc = 0; ours = 10; theirs = pos 9 }
    -- a delta of −128 without an anchor: there it is added, −121
    ∷ record { line_defined = 7; instructions = 1; deltas = 0x80 ∷ []; anchors = []; pc = 0; ours = 7; theirs = negsuc 120 }
    -- as many anchors as instructions
    ∷ record { line_defined = 7; instructions = 1; deltas = 0x01 ∷ []; anchors = at 1 9 ∷ []; pc = 0; ours = 9; theirs = pos 8 }
    -- anchors that fall: there the delta of −128 at the first is added, −98
    ∷ record { line_defined = 7; instructions = 3; deltas = 0x80 ∷ 0x80 ∷ 0x00 ∷ []; anchors = at 1 9 ∷ at 0 30 ∷ []; pc = 1; ours = 9; theirs = negsuc 97 }
    -- two anchors at a pc: here the first gives the line
    ∷ record { line_defined = 7; instructions = 1; deltas = 0x80 ∷ []; anchors = at 0 9 ∷ at 0 30 ∷ []; pc = 0; ours = 9; theirs = pos 30 }
    -- below 0: −4
    ∷ record { line_defined = 1; instructions = 1; deltas = 0xfb ∷ []; anchors = []; pc = 0; ours = 0; theirs = negsuc 3 }
    -- an estimate above the pc: the second of two anchors, for the pc 256
    ∷ record { line_defined = 7; instructions = 258; deltas = 0x80 ∷ replicate 256 0x00 ++ 0x80 ∷ []; anchors = at 0 9 ∷ at 257 30 ∷ []; pc = 256; ours = 9; theirs = pos 30 }
    ∷ []

parted_ours : map (λ (c : Case). line_of c.instructions c.line_defined c.deltas c.anchors c.pc) parted ≡ map (λ (c : Case). c.ours) parted
unfolding parted
parted_ours = refl

parted_theirs : map (λ (c : Case). lua_g_getfuncline c.line_defined c.deltas c.anchors c.pc) parted ≡ map (λ (c : Case). c.theirs) parted
unfolding parted
parted_theirs = refl

-- ## The estimate: anchor pc / MAXIWTHABS − 1 is where the search begins, though it may stand above the pc
-- a first anchor at 0 and another one at a pc, which is sought; ldebug.c's line at the pc asked for
abbrev estimated : ℕ → ℕ → ℤ
estimated anchor pc = lua_g_getfuncline 7 (replicate 512 0x00) (at 0 9 ∷ at anchor 30 ∷ []) pc

-- At 255 it is the first anchor, at 256 the second: with 127 for MAXIWTHABS both would be the second, with 129 or more both the first. At 127 and 128 the first (64 or less would give the second).
estimated_hold : estimated 257 127 ∷ estimated 257 128 ∷ estimated 257 255 ∷ estimated 257 256 ∷ [] ≡ pos 9 ∷ pos 9 ∷ pos 9 ∷ pos 30 ∷ []
estimated_hold = refl

-- Where the second stands at the pc asked for or just behind it, the search goes on to it or not.
searched_hold : estimated 128 127 ∷ estimated 128 128 ∷ estimated 255 254 ∷ estimated 255 255 ∷ [] ≡ pos 9 ∷ pos 30 ∷ pos 9 ∷ pos 30 ∷ []
searched_hold = refl

-- ## A function that meets the premises: 01's, at each pc that has an instruction
five : Bytes
five = 0x01 ∷ 0x00 ∷ 0x02 ∷ 0x80 ∷ 0x01 ∷ []

only : (i : ℕ) → get_or five i 0 ≡ 128 → At i (at 3 200 ∷ [])
unfolding five
only zero e = absurd (omega arith)
only (suc zero) e = absurd (omega arith)
only (suc (suc zero)) e = absurd (omega arith)
only (suc (suc (suc zero))) e = inl refl
only (suc (suc (suc (suc zero)))) e = absurd (omega arith)
only (suc (suc (suc (suc (suc i))))) e = absurd (omega arith)

compiled : (pc : ℕ) → pc < 5 → Compiled 5 five (at 3 200 ∷ []) pc
unfolding five
compiled pc h = record {
  rising = (omega arith, tt);
  marked = (refl, tt);
  only = only;
  one_each = refl;
  there = h;
  estimate = λ i d e. absurd (omega arith);
}

five_same : (pc : ℕ) → pc < 5 → line_of 5 10 five (at 3 200 ∷ []) pc ≡ raised (lua_g_getfuncline 10 five (at 3 200 ∷ []) pc)
five_same pc h = same_line 10 5 five (at 3 200 ∷ []) pc (compiled pc h)
