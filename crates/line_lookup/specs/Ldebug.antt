-- ldebug.c of Lua 5.4.4: `luaG_getfuncline` and `getbaseline`, beside 01's rules (Lines.antt).
-- `int` is ℤ here: no sum wraps. An index beyond an array, which C leaves undefined, reads the first anchor or adds nothing: see the premises of proofs/Ldebug.antt.
use Rattle.std.specs.Prelude.{cond, List, [], ◌∷◌, ℕ, ◌+◌, ◌-◌, ◌/◌, ltb, ℤ, pos, negsuc, ◌+ℤ◌, take, drop, get_or}
use Rattle.std.specs.Int.{w8}
use Rattle.std.proofs.Common.{to_z}
use Rattle.format.specs.declared.entry.AbsLineInfo.{AbsLineInfo}
use Rattle.format.specs.Form.{Bytes}
use Rattle.line_lookup.specs.Lines.{base_of}

abbrev pub MAXIWTHABS : ℕ
MAXIWTHABS = 128

-- the line, and `basepc + 1`: the pc of the first delta that is added. Without an anchor, or before the first, basepc is −1 and the line is `linedefined`;
-- else i starts at the estimate pc / MAXIWTHABS − 1 (where that is −1 the loop runs at least once), and while pc is not below anchor i + 1, i++
abbrev pub getbaseline : ℕ → ℕ → List AbsLineInfo → AbsLineInfo
getbaseline linedefined pc [] = record { pc = 0; line = linedefined }
getbaseline linedefined pc (first ∷ more) =
    let base = base_of pc (get_or (first ∷ more) (pc / MAXIWTHABS - 1) first) (drop (pc / MAXIWTHABS) (first ∷ more)) in
    cond (ltb pc first.pc) (record { pc = 0; line = linedefined }) (record { pc = base.pc + 1; line = base.line })

-- `while (basepc++ < pc) baseline += f->lineinfo[basepc];`
abbrev pub increments : ℤ → Bytes → ℤ
increments baseline [] = baseline
increments baseline (d ∷ ds) = increments (baseline +ℤ to_z w8 d) ds

-- −1 without line information
abbrev pub lua_g_getfuncline : ℕ → Bytes → List AbsLineInfo → ℕ → ℤ
lua_g_getfuncline linedefined [] anchors pc = negsuc 0
lua_g_getfuncline linedefined (d ∷ ds) anchors pc =
    let base = getbaseline linedefined pc anchors in
    increments (pos base.line) (drop base.pc (take (pc + 1) (d ∷ ds)))
