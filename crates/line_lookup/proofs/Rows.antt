-- The line of a function's row: what the calls showed, and what the reading shows.
-- Assumes nothing.
use Rattle.std.specs.Prelude.{Result, Ok, Err}
use mathlib.Core.Path.{◌≡◌, refl, sym, ◌∙◌, ap}
use mathlib.Core.Bool.{true, false}
use mathlib.Core.List.{List}
use Prim.Native.Nat.{ℕ, ◌+◌, ◌^◌, ◌≤◌}
use native.Mathlib.Omega.{arith}
use lib.ListN.{length, take, drop, length-take, length-drop}
use Rattle.format.specs.Limits.{MOST}
use Rattle.format.specs.declared.entry.AbsLineInfo.{AbsLineInfo}
use Rattle.format.specs.declared.refusal.Refusal.{Refusal}
use Rattle.format.specs.declared.refusal.Refusal.TheVariants.{LineTooLarge}
use Rattle.format.specs.Form.{Bytes}
use Rattle.format.specs.Read.{Read, ok, refused, many}
use Rattle.format.specs.ReadChunk.{anchor}
use Rattle.format.proofs.Exact.{exact_many}
use Rattle.format.proofs.ExactChunk.{exact_anchor}
use Rattle.format.proofs.Every.{every_many}
use Rattle.format.proofs.Every as every
use Rattle.format.proofs.Located.{Found}
use Rattle.read_prototype.specs.declared.row.FunctionRow.{FunctionRow}
use Rattle.line_anchors.specs.declared.Scan.{Scan}
use Rattle.line_lookup.specs.Lines.{answer_of}
use Rattle.line_anchors.specs.Inner.Scan.{scanned, start_of, scan_result}
use Rattle.line_lookup.specs.Inner.Scan.{start_in, line_from, numbered_of, answered, shown_row_line}
use Rattle.line_anchors.specs.declared.Sought.{Sought}
use Rattle.line_anchors.specs.declared.Sought.TheVariants.{Ahead, At}
use Rattle.line_lookup.proofs.Rules.{large-refused, small-shown, by_number, by_deltas_lem}
use Rattle.line_lookup.proofs.Scans.{scanned-small}

module _ (row : FunctionRow) (pc : ℕ) (s : Bytes) where
  abbrev count : ℕ
  count = row.lists.abs_line_info.count

  abbrev place : ℕ
  place = row.lists.abs_line_info.place

  abbrev instructions : ℕ
  instructions = row.lists.instructions.count

  abbrev line : ℕ
  line = row.lines.line_defined

  abbrev deltas : Bytes
  deltas = take row.lists.line_info.count (drop row.lists.line_info.place s)

  abbrev anchors_read : Read (List AbsLineInfo)
  anchors_read = many count anchor place (drop place s)

  module _ {cut : Bytes} (is : cut ≡ take (pc + 1) deltas) where
    -- an anchor is refused
    -- all are read
    record Passed (z : Scan) : Type 0 where
      anchors : List AbsLineInfo
      found : Found s (many count anchor) place anchors
      gives : z ≡ scanned (take (pc + 1) deltas) pc (start_of pc line) anchors

    passed : {z : Scan} → Ok z ≡ scan_result cut pc (start_of pc line) anchors_read → Passed z
    passed {z} e = by anchors_read refl e
      where
        by : (o : Read (List AbsLineInfo)) → anchors_read ≡ o → Ok z ≡ scan_result cut pc (start_of pc line) o → Passed z
        by (ok xs to rest) p e =
            let same : z ≡ scanned cut pc (start_of pc line) xs = cc in
            record { anchors = xs; found = record { to = to; rest = rest; is = p }; gives = same ∙ ap (λ c. scanned c pc (start_of pc line) xs) is }
        by (refused q) p e = absurd (let z : ◌≡◌ {A = ℕ} 0 1 = cc in omega arith)

    module _ {z : Scan} (e : Ok z ≡ scan_result cut pc (start_of pc line) anchors_read) where
      p : Passed z
      p = passed e

      shows : {r : Result ℕ Refusal} → r ≡ answer_of instructions line deltas p.anchors pc → r ≡ shown_row_line row pc s
      shows f = f ∙ sym (ap (answered row pc s) p.found.is)

      as_many : length p.anchors ≡ count
      as_many = ((every_many count every.any).holds _ _ _ ((exact_many count exact_anchor).sound {at = place} {s = drop place s} p.found.is).spelt).0

      pub too_large : z.large ≡ true → Err LineTooLarge ≡ shown_row_line row pc s
      too_large h = shows (large-refused instructions line deltas p.anchors pc (ap (λ z. z.large) (sym p.gives) ∙ h))

      module _ (small : z.large ≡ false) where
        low : (scanned (take (pc + 1) deltas) pc (start_of pc line) p.anchors).large ≡ false
        low = ap (λ z. z.large) (sym p.gives) ∙ small

        pub start-low : (start_in z).line ≤ 2 ^ 62
        start-low = rw p.gives (scanned-small (take (pc + 1) deltas) pc line p.anchors low)

        same_number : (x : Sought) → x ≡ numbered_of count instructions z.sought → x ≡ numbered_of (length p.anchors) instructions (scanned (take (pc + 1) deltas) pc (start_of pc line) p.anchors).sought
        same_number x f = f ∙ ap (λ n. numbered_of n instructions z.sought) (sym as_many) ∙ ap (λ z. numbered_of (length p.anchors) instructions z.sought) p.gives

        -- rule 2
        pub numbered_line : (l : ℕ) → At l ≡ numbered_of count instructions z.sought → Ok l ≡ shown_row_line row pc s
        numbered_line l f = shows (small-shown instructions line deltas p.anchors pc low (by_number instructions line deltas p.anchors pc (same_number (At l) f)))

        -- rules 3 and 4
        pub deltas_line : (n : ℕ) → Ahead n ≡ numbered_of count instructions z.sought → {l : ℕ} → l ≡ line_from z cut → Ok l ≡ shown_row_line row pc s
        deltas_line n f is-line =
            shows (small-shown instructions line deltas p.anchors pc low
            (is-line ∙ ap (line_from z) is ∙ ap (λ z. line_from z (take (pc + 1) deltas)) p.gives ∙ by_deltas_lem instructions line deltas p.anchors pc (same_number (Ahead n) f)))

    pub few : length s ≤ MOST → length cut ≤ MOST
    few h = rw is (simp (length-take, length-drop) (omega arith))
