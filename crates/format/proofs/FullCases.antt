-- Worked cases of full copies (02, item 6): chunks, their archive copies and their full copies, in a list, with one theorem over the list, which antt computes.
--     full_hold        the full copy of each
--     archive_hold     the archive copy of each, in which every nested source is absent
-- The laws of copies hold of a copy that writes every nested source, too. Told apart here: that one, the source of the function around the parent in place of the parent's, the parent's as it is spelt,
-- an empty source taken for a missing one, and the other way round, lengths alone compared, bytes alone up to the shorter length.
-- Assumes nothing.
use mathlib.Core.Path.{◌≡◌, refl}
use mathlib.Core.List.{List, [], ◌∷◌, ◌++◌, map}
use Prim.Native.Nat.{ℕ}
use lib.ListN.{replicate}
use Rattle.format.specs.Form.{Bytes}
use Rattle.format.specs.Limits.{ceilings}
use Rattle.format.specs.ReadChunk.{body, function, Outcome, shown, refusal, read}
use Rattle.format.specs.Shortest.{shortest}
use Rattle.format.specs.Copy.{list_bytes, behind_source, copy}
use Rattle.format.specs.FullCopy.{all_within, full_function, full_copy}

-- 32 bytes before main, with this format byte and byte 31
front : ℕ → ℕ → Bytes
front format upvalues =
    0x1b ∷ 0x4c ∷ 0x75 ∷ 0x61 ∷ 0x54 ∷ format ∷ 0x19 ∷ 0x93 ∷ 0x0d ∷ 0x0a ∷ 0x1a ∷ 0x0a ∷ 4 ∷ 8 ∷ 8
    ∷ 0x78 ∷ 0x56 ∷ 0 ∷ 0 ∷ 0 ∷ 0 ∷ 0 ∷ 0 ∷ 0 ∷ 0 ∷ 0 ∷ 0 ∷ 0 ∷ 0x28 ∷ 0x77 ∷ 0x40 ∷ upvalues ∷ []

-- a function with a source, and with this count and these functions in it; all other lists are empty
fn : Bytes → ℕ → Bytes → Bytes
fn source count nested = source ++ 0x80 ∷ 0x80 ∷ 0 ∷ 0 ∷ 2 ∷ 0x80 ∷ 0x80 ∷ 0x80 ∷ count ∷ nested ++ 0x80 ∷ 0x80 ∷ 0x80 ∷ 0x80 ∷ []

leaf : Bytes → Bytes
unfolding fn
leaf source = fn source 0x80 []

-- with one function in it, and with two
one : Bytes → Bytes → Bytes
unfolding fn
one source nested = fn source 0x81 nested

two : Bytes → Bytes → Bytes → Bytes
unfolding fn
two source first second = fn source 0x82 (first ++ second)

-- sources: missing, empty, `a`, `b`, `ab`, one of 41 bytes
missing : Bytes
missing = 0x80 ∷ []

empty : Bytes
empty = 0x81 ∷ []

a : Bytes
a = 0x82 ∷ 0x61 ∷ []

b : Bytes
b = 0x82 ∷ 0x62 ∷ []

ab : Bytes
ab = 0x83 ∷ 0x61 ∷ 0x62 ∷ []

long : Bytes
long = 0xaa ∷ replicate 41 0x73

record Case : Type 0 where
  chunk : Bytes
  archive : Bytes
  full : Bytes

-- by their bytes behind the first 32
case : Bytes → Bytes → Bytes → Case
unfolding front
case chunk archive full = record { chunk = front 0 0 ++ chunk; archive = front 0 0 ++ archive; full = front 0 0 ++ full }

cases : List Case
unfolding front fn leaf one two missing empty a b ab long case
cases =
    -- main's own, spelt again; another
    case (one a (leaf a)) (one a (leaf missing)) (one a (leaf missing))
    ∷ case (one a (leaf b)) (one a (leaf missing)) (one a (leaf b))
    -- as long, or longer by what is alike
    ∷ case (one ab (leaf a)) (one ab (leaf missing)) (one ab (leaf a))
    ∷ case (one a (leaf ab)) (one a (leaf missing)) (one a (leaf ab))
    -- inherited twice; the parent's as read, which is not spelt there
    ∷ case (one a (one missing (leaf missing))) (one a (one missing (leaf missing))) (one a (one missing (leaf missing)))
    ∷ case (one a (one missing (leaf a))) (one a (one missing (leaf missing))) (one a (one missing (leaf missing)))
    -- another, with one that inherits it and one that has main's
    ∷ case (one a (two b (leaf missing) (leaf a))) (one a (two missing (leaf missing) (leaf missing))) (one a (two b (leaf missing) (leaf a)))
    -- empty ones
    ∷ case (one empty (leaf empty)) (one empty (leaf missing)) (one empty (leaf missing))
    ∷ case (one a (two empty (leaf empty) (leaf missing))) (one a (two missing (leaf missing) (leaf missing))) (one a (two empty (leaf missing) (leaf missing)))
    ∷ case (one missing (leaf empty)) (one missing (leaf missing)) (one missing (leaf empty))
    -- main has none
    ∷ case (two missing (leaf missing) (one b (leaf missing))) (two missing (leaf missing) (one missing (leaf missing))) (two missing (leaf missing) (one b (leaf missing)))
    -- a padded size, of another and of the same; format 1, byte 31, trailing bytes
    ∷ record { chunk = front 1 7 ++ two a (leaf (0 ∷ b)) (leaf (0 ∷ a)) ++ 9 ∷ []; archive = front 0 0 ++ two a (leaf missing) (leaf missing) ++ 9 ∷ []; full = front 0 0 ++ two a (leaf b) (leaf missing) ++ 9 ∷ [] }
    -- 41 bytes, spelt again: ldump.c writes them
    ∷ case (one long (leaf long)) (one long (leaf missing)) (one long (leaf missing))
    ∷ []

archive_of : Outcome → Bytes
archive_of (shown r) = copy r
archive_of (refusal q) = []

full_of : Outcome → Bytes
full_of (shown r) = full_copy r
full_of (refusal q) = []

full_hold : map (λ (c : Case). full_of (read ceilings c.chunk)) cases ≡ map (λ (c : Case). c.full) cases
unfolding cases front fn leaf one two missing empty a b ab long case full_of read body function full_copy all_within full_function behind_source list_bytes shortest mathlib.Core.List.flatten
full_hold = refl

archive_hold : map (λ (c : Case). archive_of (read ceilings c.chunk)) cases ≡ map (λ (c : Case). c.archive) cases
unfolding cases front fn leaf one two missing empty a b ab long case archive_of read body function copy behind_source list_bytes shortest mathlib.Core.List.flatten
archive_hold = refl
