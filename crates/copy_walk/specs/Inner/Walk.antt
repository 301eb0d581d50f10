-- What the walk puts of what it reads.
--     PutsFunction bytes o l upvalues len l'   where a function was read, with all that nest in it, its bytes, at the start; and how many upvalues it has
use Rattle.std.specs.Prelude.{◌≡◌, List, ℕ}
use Rattle.format.specs.Form.{Bytes}
use Rattle.format.specs.Reading.{Prototype}
use Rattle.format.specs.Read.{Read, ok}
use Rattle.format.specs.Copy.{upvalues_of_main}
use Rattle.copy_put.specs.Inner.Put.{Put}

pub record PutsFunction (bytes : List Prototype → Bytes) (o : Read (List Prototype)) (l : Bytes) (upvalues len : ℕ) (l' : Bytes) : Type 0 where
  pub counts : (ps : List Prototype) (to : ℕ) (rest : Bytes) → o ≡ ok ps to rest → upvalues ≡ upvalues_of_main ps
  pub put : (ps : List Prototype) (to : ℕ) (rest : Bytes) → o ≡ ok ps to rest → Put (bytes ps) 0 l len l'
