-- Worked cases of how whole chunks are spelt, and that a chunk is its own copy behind byte 32, archive or full, where no place is spelt otherwise, and only there. Which places these are was computed by other means.
-- Assumes nothing.
use mathlib.Core.Path.{◌≡◌, refl}
use mathlib.Core.List.{List, [], ◌∷◌, ◌++◌, map, flatten}
use Prim.Native.Nat.{ℕ}
use lib.Dec.{eqb}
use lib.ListN.{drop}
use Rattle.format.specs.Form.{Bytes}
use Rattle.format.specs.Limits.{ceilings}
use Rattle.format.specs.Shortest.{shortest}
use Rattle.format.specs.Copy.{header_bytes, behind_source, list_bytes, copy}
use Rattle.format.specs.FullCopy.{all_within, full_function, full_copy}
use Rattle.format.specs.ReadHeader.{same_bytes}
use Rattle.format.specs.ReadChunk.{Outcome, shown, refusal, read}
use Rattle.format.specs.ReadChunk as reader
use Rattle.format.specs.declared.spelling.Spelling.{Spelling}
use Rattle.format_spelling.specs.Spelling.{respelt, respelt_full}
use Rattle.format_spelling.specs.ReadSpelling as count

record Spelt : Type 0 where
  format : ℕ
  -- byte 31, the functions, trailing bytes
  behind : Bytes
  spelling : Spelling

abbrev chunk_of : Spelt → Bytes
chunk_of c = header_bytes c.format ++ c.behind

spelt : List Spelt
spelt =
    -- 01's 46 bytes
    record { format = 0; behind = 0 ∷ 128 ∷ 128 ∷ 128 ∷ 0 ∷ 0 ∷ 2 ∷ 128 ∷ 128 ∷ 128 ∷ 128 ∷ 128 ∷ 128 ∷ 128 ∷ 128 ∷ []; spelling = record { padded = 0; filled = 0; sources = 0; repeated = 0 } }
    -- another format, another byte 31, trailing bytes
    ∷ record { format = 7; behind = 9 ∷ 128 ∷ 128 ∷ 128 ∷ 0 ∷ 0 ∷ 2 ∷ 128 ∷ 128 ∷ 128 ∷ 128 ∷ 128 ∷ 128 ∷ 128 ∷ 128 ∷ 0 ∷ 128 ∷ []; spelling = record { padded = 0; filled = 0; sources = 0; repeated = 0 } }
    -- main's source
    ∷ record { format = 0; behind = 0 ∷ 131 ∷ 64 ∷ 120 ∷ 128 ∷ 128 ∷ 0 ∷ 0 ∷ 2 ∷ 128 ∷ 128 ∷ 128 ∷ 128 ∷ 128 ∷ 128 ∷ 128 ∷ 128 ∷ []; spelling = record { padded = 0; filled = 0; sources = 0; repeated = 0 } }
    -- a nested function without a source
    ∷ record { format = 0; behind = 0 ∷ 131 ∷ 64 ∷ 120 ∷ 128 ∷ 128 ∷ 0 ∷ 0 ∷ 2 ∷ 128 ∷ 128 ∷ 128 ∷ 129 ∷ 128 ∷ 128 ∷ 128 ∷ 0 ∷ 0 ∷ 2 ∷ 128 ∷ 128 ∷ 128 ∷ 128 ∷ 128 ∷ 128 ∷ 128 ∷ 128 ∷ 128 ∷ 128 ∷ 128 ∷ 128 ∷ []; spelling = record { padded = 0; filled = 0; sources = 0; repeated = 0 } }
    -- one with another source
    ∷ record { format = 0; behind = 0 ∷ 131 ∷ 64 ∷ 120 ∷ 128 ∷ 128 ∷ 0 ∷ 0 ∷ 2 ∷ 128 ∷ 128 ∷ 128 ∷ 129 ∷ 131 ∷ 64 ∷ 121 ∷ 128 ∷ 128 ∷ 0 ∷ 0 ∷ 2 ∷ 128 ∷ 128 ∷ 128 ∷ 128 ∷ 128 ∷ 128 ∷ 128 ∷ 128 ∷ 128 ∷ 128 ∷ 128 ∷ 128 ∷ []; spelling = record { padded = 0; filled = 0; sources = 1; repeated = 0 } }
    -- one with its parent's
    ∷ record { format = 0; behind = 0 ∷ 131 ∷ 64 ∷ 120 ∷ 128 ∷ 128 ∷ 0 ∷ 0 ∷ 2 ∷ 128 ∷ 128 ∷ 128 ∷ 129 ∷ 131 ∷ 64 ∷ 120 ∷ 128 ∷ 128 ∷ 0 ∷ 0 ∷ 2 ∷ 128 ∷ 128 ∷ 128 ∷ 128 ∷ 128 ∷ 128 ∷ 128 ∷ 128 ∷ 128 ∷ 128 ∷ 128 ∷ 128 ∷ []; spelling = record { padded = 0; filled = 0; sources = 1; repeated = 1 } }
    -- one with an empty source, in one without
    ∷ record { format = 0; behind = 0 ∷ 128 ∷ 128 ∷ 128 ∷ 0 ∷ 0 ∷ 2 ∷ 128 ∷ 128 ∷ 128 ∷ 129 ∷ 129 ∷ 128 ∷ 128 ∷ 0 ∷ 0 ∷ 2 ∷ 128 ∷ 128 ∷ 128 ∷ 128 ∷ 128 ∷ 128 ∷ 128 ∷ 128 ∷ 128 ∷ 128 ∷ 128 ∷ 128 ∷ []; spelling = record { padded = 0; filled = 0; sources = 1; repeated = 0 } }
    -- one with an empty source, in one with an empty source
    ∷ record { format = 0; behind = 0 ∷ 129 ∷ 128 ∷ 128 ∷ 0 ∷ 0 ∷ 2 ∷ 128 ∷ 128 ∷ 128 ∷ 129 ∷ 129 ∷ 128 ∷ 128 ∷ 0 ∷ 0 ∷ 2 ∷ 128 ∷ 128 ∷ 128 ∷ 128 ∷ 128 ∷ 128 ∷ 128 ∷ 128 ∷ 128 ∷ 128 ∷ 128 ∷ 128 ∷ []; spelling = record { padded = 0; filled = 0; sources = 1; repeated = 1 } }
    -- one with its grandparent's, in one without
    ∷ record { format = 0; behind = 0 ∷ 131 ∷ 64 ∷ 120 ∷ 128 ∷ 128 ∷ 0 ∷ 0 ∷ 2 ∷ 128 ∷ 128 ∷ 128 ∷ 129 ∷ 128 ∷ 128 ∷ 128 ∷ 0 ∷ 0 ∷ 2 ∷ 128 ∷ 128 ∷ 128 ∷ 129 ∷ 131 ∷ 64 ∷ 120 ∷ 128 ∷ 128 ∷ 0 ∷ 0 ∷ 2 ∷ 128 ∷ 128 ∷ 128 ∷ 128 ∷ 128 ∷ 128 ∷ 128 ∷ 128 ∷ 128 ∷ 128 ∷ 128 ∷ 128 ∷ 128 ∷ 128 ∷ 128 ∷ 128 ∷ []; spelling = record { padded = 0; filled = 0; sources = 1; repeated = 1 } }
    -- one with its parent's, which is not main's, and a sibling with main's
    ∷ record { format = 0; behind = 0 ∷ 131 ∷ 64 ∷ 120 ∷ 128 ∷ 128 ∷ 0 ∷ 0 ∷ 2 ∷ 128 ∷ 128 ∷ 128 ∷ 130 ∷ 131 ∷ 64 ∷ 121 ∷ 128 ∷ 128 ∷ 0 ∷ 0 ∷ 2 ∷ 128 ∷ 128 ∷ 128 ∷ 129 ∷ 131 ∷ 64 ∷ 121 ∷ 128 ∷ 128 ∷ 0 ∷ 0 ∷ 2 ∷ 128 ∷ 128 ∷ 128 ∷ 128 ∷ 128 ∷ 128 ∷ 128 ∷ 128 ∷ 128 ∷ 128 ∷ 128 ∷ 128 ∷ 131 ∷ 64 ∷ 120 ∷ 128 ∷ 128 ∷ 0 ∷ 0 ∷ 2 ∷ 128 ∷ 128 ∷ 128 ∷ 128 ∷ 128 ∷ 128 ∷ 128 ∷ 128 ∷ 128 ∷ 128 ∷ 128 ∷ 128 ∷ []; spelling = record { padded = 0; filled = 0; sources = 3; repeated = 2 } }
    -- one with its grandparent's, in one with another: two sources, none repeated
    ∷ record { format = 0; behind = 0 ∷ 131 ∷ 64 ∷ 120 ∷ 128 ∷ 128 ∷ 0 ∷ 0 ∷ 2 ∷ 128 ∷ 128 ∷ 128 ∷ 129 ∷ 131 ∷ 64 ∷ 121 ∷ 128 ∷ 128 ∷ 0 ∷ 0 ∷ 2 ∷ 128 ∷ 128 ∷ 128 ∷ 129 ∷ 131 ∷ 64 ∷ 120 ∷ 128 ∷ 128 ∷ 0 ∷ 0 ∷ 2 ∷ 128 ∷ 128 ∷ 128 ∷ 128 ∷ 128 ∷ 128 ∷ 128 ∷ 128 ∷ 128 ∷ 128 ∷ 128 ∷ 128 ∷ 128 ∷ 128 ∷ 128 ∷ 128 ∷ []; spelling = record { padded = 0; filled = 0; sources = 2; repeated = 0 } }
    -- two siblings with the same source, which is not their parent's
    ∷ record { format = 0; behind = 0 ∷ 131 ∷ 64 ∷ 120 ∷ 128 ∷ 128 ∷ 0 ∷ 0 ∷ 2 ∷ 128 ∷ 128 ∷ 128 ∷ 130 ∷ 131 ∷ 64 ∷ 121 ∷ 128 ∷ 128 ∷ 0 ∷ 0 ∷ 2 ∷ 128 ∷ 128 ∷ 128 ∷ 128 ∷ 128 ∷ 128 ∷ 128 ∷ 128 ∷ 131 ∷ 64 ∷ 121 ∷ 128 ∷ 128 ∷ 0 ∷ 0 ∷ 2 ∷ 128 ∷ 128 ∷ 128 ∷ 128 ∷ 128 ∷ 128 ∷ 128 ∷ 128 ∷ 128 ∷ 128 ∷ 128 ∷ 128 ∷ []; spelling = record { padded = 0; filled = 0; sources = 2; repeated = 0 } }
    -- one whose source is the first bytes of its parent's, and one of which its parent's is
    ∷ record { format = 0; behind = 0 ∷ 131 ∷ 64 ∷ 120 ∷ 128 ∷ 128 ∷ 0 ∷ 0 ∷ 2 ∷ 128 ∷ 128 ∷ 128 ∷ 130 ∷ 130 ∷ 64 ∷ 128 ∷ 128 ∷ 0 ∷ 0 ∷ 2 ∷ 128 ∷ 128 ∷ 128 ∷ 128 ∷ 128 ∷ 128 ∷ 128 ∷ 128 ∷ 132 ∷ 64 ∷ 120 ∷ 121 ∷ 128 ∷ 128 ∷ 0 ∷ 0 ∷ 2 ∷ 128 ∷ 128 ∷ 128 ∷ 128 ∷ 128 ∷ 128 ∷ 128 ∷ 128 ∷ 128 ∷ 128 ∷ 128 ∷ 128 ∷ []; spelling = record { padded = 0; filled = 0; sources = 2; repeated = 0 } }
    -- one with an empty source, in one with a source; in it one with a source
    ∷ record { format = 0; behind = 0 ∷ 131 ∷ 64 ∷ 120 ∷ 128 ∷ 128 ∷ 0 ∷ 0 ∷ 2 ∷ 128 ∷ 128 ∷ 128 ∷ 129 ∷ 129 ∷ 128 ∷ 128 ∷ 0 ∷ 0 ∷ 2 ∷ 128 ∷ 128 ∷ 128 ∷ 129 ∷ 131 ∷ 64 ∷ 120 ∷ 128 ∷ 128 ∷ 0 ∷ 0 ∷ 2 ∷ 128 ∷ 128 ∷ 128 ∷ 128 ∷ 128 ∷ 128 ∷ 128 ∷ 128 ∷ 128 ∷ 128 ∷ 128 ∷ 128 ∷ 128 ∷ 128 ∷ 128 ∷ 128 ∷ []; spelling = record { padded = 0; filled = 0; sources = 2; repeated = 0 } }
    -- an empty source, two levels up the same
    ∷ record { format = 0; behind = 0 ∷ 129 ∷ 128 ∷ 128 ∷ 0 ∷ 0 ∷ 2 ∷ 128 ∷ 128 ∷ 128 ∷ 129 ∷ 128 ∷ 128 ∷ 128 ∷ 0 ∷ 0 ∷ 2 ∷ 128 ∷ 128 ∷ 128 ∷ 129 ∷ 129 ∷ 128 ∷ 128 ∷ 0 ∷ 0 ∷ 2 ∷ 128 ∷ 128 ∷ 128 ∷ 128 ∷ 128 ∷ 128 ∷ 128 ∷ 128 ∷ 128 ∷ 128 ∷ 128 ∷ 128 ∷ 128 ∷ 128 ∷ 128 ∷ 128 ∷ []; spelling = record { padded = 0; filled = 0; sources = 1; repeated = 1 } }
    -- two scripts joined, as `luac a.lua b.lua` does: each with its source, and functions without in them
    ∷ record { format = 0; behind = 0 ∷ 131 ∷ 61 ∷ 63 ∷ 128 ∷ 128 ∷ 0 ∷ 0 ∷ 2 ∷ 128 ∷ 128 ∷ 128 ∷ 130 ∷ 131 ∷ 64 ∷ 97 ∷ 128 ∷ 128 ∷ 0 ∷ 0 ∷ 2 ∷ 128 ∷ 128 ∷ 128 ∷ 129 ∷ 128 ∷ 128 ∷ 128 ∷ 0 ∷ 0 ∷ 2 ∷ 128 ∷ 128 ∷ 128 ∷ 129 ∷ 128 ∷ 128 ∷ 128 ∷ 0 ∷ 0 ∷ 2 ∷ 128 ∷ 128 ∷ 128 ∷ 128 ∷ 128 ∷ 128 ∷ 128 ∷ 128 ∷ 128 ∷ 128 ∷ 128 ∷ 128 ∷ 128 ∷ 128 ∷ 128 ∷ 128 ∷ 131 ∷ 64 ∷ 98 ∷ 128 ∷ 128 ∷ 0 ∷ 0 ∷ 2 ∷ 128 ∷ 128 ∷ 128 ∷ 129 ∷ 128 ∷ 128 ∷ 128 ∷ 0 ∷ 0 ∷ 2 ∷ 128 ∷ 128 ∷ 128 ∷ 128 ∷ 128 ∷ 128 ∷ 128 ∷ 128 ∷ 128 ∷ 128 ∷ 128 ∷ 128 ∷ 128 ∷ 128 ∷ 128 ∷ 128 ∷ []; spelling = record { padded = 0; filled = 0; sources = 2; repeated = 0 } }
    -- the same, but that one in the second script has its parent's, and one in the first main's
    ∷ record { format = 0; behind = 0 ∷ 131 ∷ 61 ∷ 63 ∷ 128 ∷ 128 ∷ 0 ∷ 0 ∷ 2 ∷ 128 ∷ 128 ∷ 128 ∷ 130 ∷ 131 ∷ 64 ∷ 97 ∷ 128 ∷ 128 ∷ 0 ∷ 0 ∷ 2 ∷ 128 ∷ 128 ∷ 128 ∷ 129 ∷ 131 ∷ 61 ∷ 63 ∷ 128 ∷ 128 ∷ 0 ∷ 0 ∷ 2 ∷ 128 ∷ 128 ∷ 128 ∷ 128 ∷ 128 ∷ 128 ∷ 128 ∷ 128 ∷ 128 ∷ 128 ∷ 128 ∷ 128 ∷ 131 ∷ 64 ∷ 98 ∷ 128 ∷ 128 ∷ 0 ∷ 0 ∷ 2 ∷ 128 ∷ 128 ∷ 128 ∷ 129 ∷ 128 ∷ 128 ∷ 128 ∷ 0 ∷ 0 ∷ 2 ∷ 128 ∷ 128 ∷ 128 ∷ 129 ∷ 131 ∷ 64 ∷ 98 ∷ 128 ∷ 128 ∷ 0 ∷ 0 ∷ 2 ∷ 128 ∷ 128 ∷ 128 ∷ 128 ∷ 128 ∷ 128 ∷ 128 ∷ 128 ∷ 128 ∷ 128 ∷ 128 ∷ 128 ∷ 128 ∷ 128 ∷ 128 ∷ 128 ∷ 128 ∷ 128 ∷ 128 ∷ 128 ∷ []; spelling = record { padded = 0; filled = 0; sources = 4; repeated = 1 } }
    -- a local without a name
    ∷ record { format = 0; behind = 0 ∷ 128 ∷ 128 ∷ 128 ∷ 0 ∷ 0 ∷ 2 ∷ 128 ∷ 128 ∷ 128 ∷ 128 ∷ 128 ∷ 128 ∷ 129 ∷ 128 ∷ 128 ∷ 128 ∷ 128 ∷ []; spelling = record { padded = 0; filled = 1; sources = 0; repeated = 0 } }
    -- a local named ?
    ∷ record { format = 0; behind = 0 ∷ 128 ∷ 128 ∷ 128 ∷ 0 ∷ 0 ∷ 2 ∷ 128 ∷ 128 ∷ 128 ∷ 128 ∷ 128 ∷ 128 ∷ 129 ∷ 130 ∷ 63 ∷ 128 ∷ 128 ∷ 128 ∷ []; spelling = record { padded = 0; filled = 0; sources = 0; repeated = 0 } }
    -- a local with an empty name
    ∷ record { format = 0; behind = 0 ∷ 128 ∷ 128 ∷ 128 ∷ 0 ∷ 0 ∷ 2 ∷ 128 ∷ 128 ∷ 128 ∷ 128 ∷ 128 ∷ 128 ∷ 129 ∷ 129 ∷ 128 ∷ 128 ∷ 128 ∷ []; spelling = record { padded = 0; filled = 0; sources = 0; repeated = 0 } }
    -- an upvalue without a name
    ∷ record { format = 0; behind = 0 ∷ 128 ∷ 128 ∷ 128 ∷ 0 ∷ 0 ∷ 2 ∷ 128 ∷ 128 ∷ 128 ∷ 128 ∷ 128 ∷ 128 ∷ 128 ∷ 129 ∷ 128 ∷ []; spelling = record { padded = 0; filled = 0; sources = 0; repeated = 0 } }
    -- a short string of size 0
    ∷ record { format = 0; behind = 0 ∷ 128 ∷ 128 ∷ 128 ∷ 0 ∷ 0 ∷ 2 ∷ 128 ∷ 129 ∷ 4 ∷ 128 ∷ 128 ∷ 128 ∷ 128 ∷ 128 ∷ 128 ∷ 128 ∷ []; spelling = record { padded = 0; filled = 1; sources = 0; repeated = 0 } }
    -- a long string of size 0
    ∷ record { format = 0; behind = 0 ∷ 128 ∷ 128 ∷ 128 ∷ 0 ∷ 0 ∷ 2 ∷ 128 ∷ 129 ∷ 20 ∷ 128 ∷ 128 ∷ 128 ∷ 128 ∷ 128 ∷ 128 ∷ 128 ∷ []; spelling = record { padded = 0; filled = 1; sources = 0; repeated = 0 } }
    -- empty strings
    ∷ record { format = 0; behind = 0 ∷ 128 ∷ 128 ∷ 128 ∷ 0 ∷ 0 ∷ 2 ∷ 128 ∷ 130 ∷ 4 ∷ 129 ∷ 20 ∷ 129 ∷ 128 ∷ 128 ∷ 128 ∷ 128 ∷ 128 ∷ 128 ∷ []; spelling = record { padded = 0; filled = 0; sources = 0; repeated = 0 } }
    -- other constants
    ∷ record { format = 0; behind = 0 ∷ 128 ∷ 128 ∷ 128 ∷ 0 ∷ 0 ∷ 2 ∷ 128 ∷ 133 ∷ 0 ∷ 1 ∷ 17 ∷ 3 ∷ 0 ∷ 0 ∷ 0 ∷ 0 ∷ 0 ∷ 0 ∷ 0 ∷ 0 ∷ 19 ∷ 0 ∷ 0 ∷ 0 ∷ 0 ∷ 0 ∷ 0 ∷ 0 ∷ 0 ∷ 128 ∷ 128 ∷ 128 ∷ 128 ∷ 128 ∷ 128 ∷ []; spelling = record { padded = 0; filled = 0; sources = 0; repeated = 0 } }
    -- a short string of size 0, padded
    ∷ record { format = 0; behind = 0 ∷ 128 ∷ 128 ∷ 128 ∷ 0 ∷ 0 ∷ 2 ∷ 128 ∷ 129 ∷ 4 ∷ 0 ∷ 128 ∷ 128 ∷ 128 ∷ 128 ∷ 128 ∷ 128 ∷ 128 ∷ []; spelling = record { padded = 1; filled = 1; sources = 0; repeated = 0 } }
    -- a nested source that is its parent's, its size padded
    ∷ record { format = 0; behind = 0 ∷ 131 ∷ 64 ∷ 120 ∷ 128 ∷ 128 ∷ 0 ∷ 0 ∷ 2 ∷ 128 ∷ 128 ∷ 128 ∷ 129 ∷ 0 ∷ 131 ∷ 64 ∷ 120 ∷ 128 ∷ 128 ∷ 0 ∷ 0 ∷ 2 ∷ 128 ∷ 128 ∷ 128 ∷ 128 ∷ 128 ∷ 128 ∷ 128 ∷ 128 ∷ 128 ∷ 128 ∷ 128 ∷ 128 ∷ []; spelling = record { padded = 1; filled = 0; sources = 1; repeated = 1 } }
    -- all of it
    ∷ record { format = 0; behind = 0 ∷ 0 ∷ 131 ∷ 64 ∷ 120 ∷ 128 ∷ 128 ∷ 0 ∷ 0 ∷ 2 ∷ 128 ∷ 130 ∷ 4 ∷ 0 ∷ 0 ∷ 128 ∷ 20 ∷ 130 ∷ 122 ∷ 128 ∷ 130 ∷ 131 ∷ 64 ∷ 120 ∷ 128 ∷ 128 ∷ 0 ∷ 0 ∷ 2 ∷ 128 ∷ 128 ∷ 128 ∷ 128 ∷ 128 ∷ 128 ∷ 128 ∷ 128 ∷ 131 ∷ 64 ∷ 121 ∷ 128 ∷ 128 ∷ 0 ∷ 0 ∷ 2 ∷ 128 ∷ 128 ∷ 128 ∷ 128 ∷ 128 ∷ 128 ∷ 129 ∷ 128 ∷ 128 ∷ 128 ∷ 128 ∷ 128 ∷ 128 ∷ 130 ∷ 128 ∷ 128 ∷ 128 ∷ 130 ∷ 97 ∷ 129 ∷ 130 ∷ 128 ∷ []; spelling = record { padded = 2; filled = 3; sources = 2; repeated = 1 } }
    ∷ []

spelt_hold : map (λ (c : Spelt). count.spelling ceilings (chunk_of c)) spelt ≡ map (λ (c : Spelt). c.spelling) spelt
unfolding spelt count.spelling count.function count.body reader.function reader.body
spelt_hold = refl

abbrev copied : Outcome → Bytes
copied (shown r) = drop 32 (copy r)
copied (refusal q) = []

own_hold : map (λ (c : Spelt). same_bytes (copied (read ceilings (chunk_of c))) (drop 32 (chunk_of c))) spelt ≡ map (λ (c : Spelt). eqb (respelt c.spelling) 0) spelt
unfolding spelt read reader.function reader.body copy behind_source list_bytes shortest flatten
own_hold = refl

abbrev copied_in_full : Outcome → Bytes
copied_in_full (shown r) = drop 32 (full_copy r)
copied_in_full (refusal q) = []

own_full_hold : map (λ (c : Spelt). same_bytes (copied_in_full (read ceilings (chunk_of c))) (drop 32 (chunk_of c))) spelt ≡ map (λ (c : Spelt). eqb (respelt_full c.spelling) 0) spelt
unfolding spelt read reader.function reader.body full_copy full_function all_within behind_source list_bytes shortest flatten
own_full_hold = refl
