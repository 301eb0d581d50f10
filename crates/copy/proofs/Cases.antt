-- What the copying calls answer and leave of lent memory, on 01's chunk of 46 bytes with another format byte, another byte 31 and one trailing byte: the copy has 0 for both, and 47 bytes. Antt computes all.
--     answers_hold     the length; 26 where one byte less is lent; and of a chunk that is cut short its own refusal, however little is lent
--     memory_holds     what then stands there: the copy, and behind it what stood there; on a refusal all that stood there
-- Told apart: the chunk handed back untouched, a byte behind the copy touched, memory touched on a refusal, 26 before 1, room of the copy's length not enough.
-- Assumes nothing.
use Rattle.std.specs.Prelude.{ℕ, Result, Ok, Err}
use Rattle.format.specs.declared.refusal.Refusal.{Refusal}
use mathlib.Core.Path.{◌≡◌, refl}
use mathlib.Core.List.{List, [], ◌∷◌, ◌++◌, map}
use lib.ListN.{length, replicate, set, take}
use Rattle.format.specs.declared.refusal.Refusal.TheVariants.{Truncated, LentSpace}
use Rattle.format.specs.Form.{Bytes}
use Rattle.format.specs.Limits.{ceilings}
use Rattle.format.specs.ReadChunk.{body, function, read}
use Rattle.format.specs.Copy.{list_bytes, behind_source, copy}
use Rattle.format.specs.Shortest.{shortest}
use Rattle.format.proofs.Distinct.{header, little}
use Rattle.copy.specs.Copied.{shown_length, shown_copy, copy_written}

-- format 3, byte 31 is 7
abbrev chunk : Bytes
chunk = header ++ (7 ∷ little) ++ 9 ∷ []

abbrev copied : Bytes
copied = set header 5 0 ++ (0 ∷ little) ++ 9 ∷ []

record Case : Type 0 where
  input : Bytes
  lent : Bytes
  answer : Result ℕ Refusal
  then : Bytes

cases : List Case
cases =
    record { input = chunk; lent = replicate 47 1; answer = Ok 47; then = copied }
    ∷ record { input = chunk; lent = replicate 48 1; answer = Ok 47; then = copied ++ 1 ∷ [] }
    ∷ record { input = chunk; lent = replicate 46 1; answer = Err LentSpace; then = replicate 46 1 }
    ∷ record { input = take 45 chunk; lent = replicate 48 1; answer = Err (Truncated 45); then = replicate 48 1 }
    ∷ record { input = take 45 chunk; lent = []; answer = Err (Truncated 45); then = [] }
    ∷ []

answers_hold : map (λ (c : Case). shown_copy (length c.lent) (read ceilings c.input)) cases ≡ map (λ (c : Case). c.answer) cases
unfolding cases read body function copy behind_source list_bytes shortest mathlib.Core.List.flatten
answers_hold = refl

memory_holds : map (λ (c : Case). copy_written c.lent (read ceilings c.input)) cases ≡ map (λ (c : Case). c.then) cases
unfolding cases read body function copy behind_source list_bytes shortest mathlib.Core.List.flatten
memory_holds = refl

lengths_hold : shown_length (read ceilings chunk) ∷ shown_length (read ceilings (take 45 chunk)) ∷ [] ≡ Ok 47 ∷ Err (Truncated 45) ∷ []
unfolding read body function copy behind_source list_bytes shortest mathlib.Core.List.flatten
lengths_hold = refl
