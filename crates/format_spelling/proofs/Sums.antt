-- Spellings joined.
-- Assumes nothing.
use mathlib.Core.Path.{◌≡◌}
use native.Mathlib.Nat.{add-zero, zero-add, add_assoc}
use Rattle.format.specs.declared.spelling.Spelling.{Spelling}
use Rattle.format_spelling.specs.Spelling.{same, ◌⊕◌}

pub join_same : (a : Spelling) → a ⊕ same ≡ a
join_same a = rw (add-zero a.padded, add-zero a.filled, add-zero a.sources, add-zero a.repeated)

pub same_join : (a : Spelling) → same ⊕ a ≡ a
same_join a = rw (zero-add a.padded, zero-add a.filled, zero-add a.sources, zero-add a.repeated)

pub join_assoc : (a b c : Spelling) → a ⊕ b ⊕ c ≡ a ⊕ (b ⊕ c)
join_assoc a b c = rw (add_assoc a.padded b.padded c.padded, add_assoc a.filled b.filled c.filled, add_assoc a.sources b.sources c.sources, add_assoc a.repeated b.repeated c.repeated)

-- by each sort
pub spelling_path : (a b : Spelling) → a.padded ≡ b.padded → a.filled ≡ b.filled → a.sources ≡ b.sources → a.repeated ≡ b.repeated → a ≡ b
spelling_path a b p q r o = λ i. record { padded = p i; filled = q i; sources = r i; repeated = o i }
