-- What a reader leaves of a slice is the slice from the next place on: by this a chain of calls, each with the slice and a place, is the chain of readers.
-- Assumes nothing.
use mathlib.Core.Path.{◌≡◌, sym, ◌∙◌, ap}
use mathlib.Core.List.{List, ◌++◌}
use Prim.Native.Nat.{ℕ, ◌+◌}
use lib.ListN.{length, drop}
use lib.Seq.{drop-drop, drop-append_seam}
use Rattle.format.specs.Form.{Bytes, Form}
use Rattle.format.specs.Read.{Read, ok, Reader}
use Rattle.format.proofs.Exact.{Exact, Split}

seam : (s bytes rest : Bytes) (at : ℕ) → drop at s ≡ bytes ++ rest → rest ≡ drop (at + length bytes) s
seam s bytes rest at e = sym (sym (drop-drop (length bytes) at s) ∙ ap (drop (length bytes)) e ∙ drop-append_seam bytes rest)

pub left : {A : Type 0} {r : Reader A} {F : Form A} → Exact r F → (s : Bytes) (at : ℕ) {x : A} {to : ℕ} {rest : Bytes} → r at (drop at s) ≡ ok x to rest → rest ≡ drop to s
left exact s at {x} {to} {rest} e = from (exact.sound e)
  where
    from : {F : Form _} → Split F at (drop at s) x to rest → rest ≡ drop to s
    from a = seam s a.bytes rest at a.whole ∙ ap (λ k. drop k s) (sym a.place)
