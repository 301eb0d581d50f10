-- What the calls below the exported ones answer of what they read.
--     chunk_bytes ps rest       the copy of a chunk: header, byte 31, functions, trailing bytes
--     chunkBy ..               the same, by what the bytes of the functions are
--     Answers bytes o l r l'   a refusal of o is the answer; where o was read, its bytes are put at the start and their length is the answer
--     Copies o l r l'          the same of a whole chunk, with the length and the memory said outright
--     CopiesBy ..              the same, by what the copy of a reading is
use Rattle.std.specs.Prelude.{◌≡◌, List, ◌++◌, ℕ, ◌≤◌, length, Result, Ok, Err}
use Rattle.format.specs.declared.refusal.Refusal.{Refusal}
use Rattle.format.specs.Form.{Bytes}
use Rattle.format.specs.Reading.{Prototype, Reading}
use Rattle.format.specs.Read.{Read, ok, refused}
use Rattle.format.specs.ReadChunk.{Outcome, shown}
use Rattle.format.specs.Copy.{field_bytes, functions_bytes, header_bytes, upvalues_of_main, copy}
use Rattle.slice.specs.Inner.Splice.{splice}
use Rattle.copy_put.specs.Inner.Put.{Put}
use Rattle.copy.specs.Copied.{length_by}

abbrev pub chunkBy : (List Prototype → Bytes) → List Prototype → Bytes → Bytes
chunkBy functions ps trailing = header_bytes 0 ++ (field_bytes 1 (upvalues_of_main ps) ++ (functions ps ++ trailing))

abbrev pub chunk_bytes : List Prototype → Bytes → Bytes
chunk_bytes = chunkBy functions_bytes

pub record PutAll (b l : Bytes) (r : Result ℕ Refusal) (l' : Bytes) : Type 0 where
  pub len : ℕ
  pub is : r ≡ Ok len
  pub small : length b ≤ 4294967296
  pub put : Put b 0 l len l'

pub record Answers {A : Type 0} (bytes : A → Bytes → Bytes) (o : Read A) (l : Bytes) (r : Result ℕ Refusal) (l' : Bytes) : Type 0 where
  pub stops : (q : Refusal) → o ≡ refused q → r ≡ Err q
  pub puts : (x : A) (to : ℕ) (rest : Bytes) → o ≡ ok x to rest → PutAll (bytes x rest) l r l'

pub record CopiesBy (copied : Reading → Bytes) (o : Outcome) (l : Bytes) (r : Result ℕ Refusal) (l' : Bytes) : Type 0 where
  pub is : r ≡ length_by copied o
  pub wrote : (x : Reading) → o ≡ shown x → length (copied x) ≤ length l → l' ≡ splice 0 (copied x) l

abbrev pub Copies : Outcome → Bytes → Result ℕ Refusal → Bytes → Type 0
Copies = CopiesBy copy
