-- Two readings that are equal but for format byte, warnings and places: 02's 'agree on those as well' (item 6), said field by field and without `kept_full` (crates/format/specs/FullCopy.antt).
--     SameSource           two functions have the same source, as read, wherever it stands; or both have none
--     SameInFull           of readings: the same but for what demand 3 sets aside (`SameButFor`, Same.antt), and every function has the same source
--     same_in_full         of what belongs, readings are equal in what a full copy keeps exactly when they are so
-- Refused: a `kept_full` that drops a source, or keeps a place.
-- Assumes nothing.
use mathlib.Core.Path.{◌≡◌, refl, ap}
use mathlib.Core.Logic.{◌↔◌}
use mathlib.Core.List.{List, [], ◌∷◌, map}
use mathlib.Core.Option
use Rattle.format.specs.declared.limits.ResourceLimits.{ResourceLimits}
use Rattle.format.specs.Form.{Bytes}
use Rattle.format.specs.Reading.{Prototype, Reading}
use Rattle.format.specs.GrammarChunk.{Chunk}
use Rattle.format.specs.Copy.{kept_string}
use Rattle.format.specs.FullCopy.{kept_sourced, kept_full}
use Rattle.format.proofs.KeptFull.{full_keeps_more}
use Rattle.demands.proofs.Same.{Pairwise, SameOption, SameFunction, SameFunctions, SameButFor, to_pairs, to_option, from_option, from-function, same_exactly}

abbrev pub SameSource : Prototype → Prototype → Type 0
SameSource p q = SameOption p.source_name q.source_name

pub record SameInFull (r q : Reading) : Type 0 where
  pub others : SameButFor r q
  pub sources : Pairwise SameSource r.functions q.functions

to_source : (p q : Prototype) → kept_sourced p ≡ kept_sourced q → SameSource p q
to_source p q e = to_option p.source_name q.source_name (ap (λ (x : Prototype). x.source_name) e)

from-both : (ps qs : List Prototype) → Pairwise SameFunction ps qs → Pairwise SameSource ps qs → map kept_sourced ps ≡ map kept_sourced qs
from-both [] [] h k = refl
from-both [] (q ∷ qs) h k = absurd h
from-both (p ∷ ps) [] h k = absurd h
from-both (p ∷ ps) (q ∷ qs) h k =
    let head : kept_sourced p ≡ kept_sourced q = from-function (Option.map kept_string p.source_name) (Option.map kept_string q.source_name) p q (from_option p.source_name q.source_name k.0) h.0 in
    let tail = from-both ps qs h.1 k.1 in
    cc

-- main is said with its source there
all-functions : (ps qs : List Prototype) → SameFunctions ps qs → Pairwise SameFunction ps qs
all-functions [] [] h = tt
all-functions [] (q ∷ qs) h = absurd h
all-functions (p ∷ ps) [] h = absurd h
all-functions (p ∷ ps) (q ∷ qs) h = h.1

pub same_in_full : (L M : ResourceLimits) (s t : Bytes) (r q : Reading) → Chunk L s r → Chunk M t q → kept_full r ≡ kept_full q ↔ SameInFull r q
unfolding kept_full
same_in_full L M s t r q c d = (
  λ e. record {
    others = (same_exactly L M s t r q c d).0 (full_keeps_more r q e);
    sources = to_pairs SameSource kept_sourced to_source r.functions q.functions (ap (λ (x : Reading). x.functions) e);
  },
  λ h. let functions = from-both r.functions q.functions (all-functions r.functions q.functions h.others.functions) h.sources in rw (functions, h.others.trailing),
)
