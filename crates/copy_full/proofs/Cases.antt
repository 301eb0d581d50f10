-- What the calls on the full copy answer and leave of lent memory, on a chunk with a nested source of its own, another format byte, another byte 31 and one trailing byte: its archive copy has 62 bytes,
-- its full copy 63. Antt computes all.
--     answers_hold     the length; 26 where one byte less is lent, though the archive copy has room; and of a chunk that is cut short its own refusal, however little is lent
--     memory_holds     what then stands there: the full copy, and behind it what stood there; on a refusal all that stood there
-- Told apart: 26 judged by the archive copy's length, the archive copy written, a byte behind the copy touched, memory touched on a refusal.
-- Assumes nothing.
use Rattle.std.specs.Prelude.{ℕ, Result, Ok, Err}
use Rattle.format.specs.declared.refusal.Refusal.{Refusal}
use mathlib.Core.Path.{◌≡◌, refl}
use mathlib.Core.List.{List, [], ◌∷◌, ◌++◌, map}
use lib.ListN.{length, replicate, set, take}
use Rattle.format.specs.declared.refusal.Refusal.TheVariants.{Truncated, LentSpace}
use Rattle.format.specs.Form.{Bytes}
use Rattle.format.specs.Limits.{ceilings}
use Rattle.format.specs.ReadChunk.{body, function, read}
use Rattle.format.specs.Copy.{list_bytes, behind_source, copy}
use Rattle.format.specs.FullCopy.{all_within, full_function, full_copy}
use Rattle.format.specs.Shortest.{shortest}
use Rattle.format.proofs.Distinct.{header}
use Rattle.copy.specs.Copied.{shown_length}
use Rattle.copy_full.specs.InFull.{shown_full_length, shown_full, full_written}

-- main has the source `a`, and the function in it `b`
abbrev functions : Bytes
functions = 0x82 ∷ 0x61 ∷ 0x80 ∷ 0x80 ∷ 0 ∷ 0 ∷ 2 ∷ 0x80 ∷ 0x80 ∷ 0x80 ∷ 0x81 ∷ 0x82 ∷ 0x62 ∷ 0x80 ∷ 0x80 ∷ 0 ∷ 0 ∷ 2 ∷ 0x80 ∷ 0x80 ∷ 0x80 ∷ 0x80 ∷ 0x80 ∷ 0x80 ∷ 0x80 ∷ 0x80 ∷ 0x80 ∷ 0x80 ∷ 0x80 ∷ 0x80 ∷ []

-- format 3, byte 31 is 7
abbrev chunk : Bytes
chunk = header ++ (7 ∷ functions) ++ 9 ∷ []

abbrev copied : Bytes
copied = set header 5 0 ++ (0 ∷ functions) ++ 9 ∷ []

record Case : Type 0 where
  input : Bytes
  lent : Bytes
  answer : Result ℕ Refusal
  then : Bytes

cases : List Case
cases =
    record { input = chunk; lent = replicate 63 1; answer = Ok 63; then = copied }
    ∷ record { input = chunk; lent = replicate 64 1; answer = Ok 63; then = copied ++ 1 ∷ [] }
    ∷ record { input = chunk; lent = replicate 62 1; answer = Err LentSpace; then = replicate 62 1 }
    ∷ record { input = take 60 chunk; lent = replicate 64 1; answer = Err (Truncated 60); then = replicate 64 1 }
    ∷ record { input = take 60 chunk; lent = []; answer = Err (Truncated 60); then = [] }
    ∷ []

answers_hold : map (λ (c : Case). shown_full (length c.lent) (read ceilings c.input)) cases ≡ map (λ (c : Case). c.answer) cases
unfolding cases read body function full_copy all_within full_function behind_source list_bytes shortest mathlib.Core.List.flatten
answers_hold = refl

memory_holds : map (λ (c : Case). full_written c.lent (read ceilings c.input)) cases ≡ map (λ (c : Case). c.then) cases
unfolding cases read body function full_copy all_within full_function behind_source list_bytes shortest mathlib.Core.List.flatten
memory_holds = refl

lengths_hold : shown_full_length (read ceilings chunk) ∷ shown_length (read ceilings chunk) ∷ shown_full_length (read ceilings (take 60 chunk)) ∷ [] ≡ Ok 63 ∷ Ok 62 ∷ Err (Truncated 60) ∷ []
unfolding read body function copy full_copy all_within full_function behind_source list_bytes shortest mathlib.Core.List.flatten
lengths_hold = refl
