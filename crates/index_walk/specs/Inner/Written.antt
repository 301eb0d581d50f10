-- What a walk that writes an index leaves behind.
--     Wrote w o l l'       where o was read and has room in l, its functions' numbers were written, from w's number on
use Rattle.std.specs.Prelude.{◌≡◌, List, ℕ, ◌+◌, ◌*◌, ◌≤◌, length}
use Rattle.format.specs.Form.{Bytes}
use Rattle.format.specs.Reading.{Prototype}
use Rattle.format.specs.GrammarChunk as grammar
use Rattle.format.specs.Read.{Read, ok}
use Rattle.slice.specs.Inner.Splice.{splice}
use Rattle.index_row.specs.Inner.Stored.{COLUMNS, stored}

pub record Wrote (w : grammar.Where) (o : Read (List Prototype)) (l l' : List ℕ) : Type 0 where
  pub wrote : (ps : List Prototype) (to : ℕ) (rest : Bytes) → o ≡ ok ps to rest → COLUMNS * (w.number + length ps) ≤ length l → l' ≡ splice (COLUMNS * w.number) (stored ps) l
