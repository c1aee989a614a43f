-- Tables of numbered records, tokens and handles alike: a new one takes the lowest free slot ('place') and the next number. Assumes nothing.
use Rattle.std.specs.Prelude.{ℕ, ◌+◌, Bool, true, false, ◌&&◌, List, [], ◌∷◌, ltb, if◌then◌else◌}

pub data Slot (A : Type 0) : Type 0 where
  free : Slot A
  live : A → Slot A

pub record Table (A : Type 0) : Type 0 where
  pub slots : List (Slot A)
  -- the number that the next record gets
  pub next : ℕ

unfoldable pub is_live : {A : Type 0} → Slot A → Bool
is_live free = false
is_live (live a) = true

-- the record of a live slot
unfoldable pub or_else : {A : Type 0} → A → Slot A → A
or_else none free = none
or_else none (live a) = a

-- the live records, in the order of their slots
unfoldable pub lives : {A : Type 0} → List (Slot A) → List A
lives [] = []
lives (free ∷ ps) = lives ps
lives (live a ∷ ps) = a ∷ lives ps

unfoldable pub some_free : {A : Type 0} → List (Slot A) → Bool
some_free [] = false
some_free (free ∷ ps) = true
some_free (live a ∷ ps) = some_free ps

-- ---- looking for a record

-- the first live record that passes the test
unfoldable pub found : {A : Type 0} → (A → Bool) → List (Slot A) → Slot A
found f [] = free
found f (free ∷ ps) = found f ps
found f (live a ∷ ps) = if f a then live a else found f ps

-- ---- changes

unfoldable pub with_slots : {A : Type 0} → List (Slot A) → Table A → Table A
with_slots ps x = record { slots = ps; next = x.next }

-- the record in the lowest free slot
unfoldable pub placed : {A : Type 0} → A → List (Slot A) → List (Slot A)
placed a [] = []
placed a (free ∷ ps) = live a ∷ ps
placed a (live b ∷ ps) = live b ∷ placed a ps

-- a record can be added: a slot is free, and the next number is not the largest of its type, which is never given
unfoldable pub can_add : {A : Type 0} → ℕ → Table A → Bool
can_add top x = some_free x.slots && ltb x.next top

unfoldable pub added : {A : Type 0} → A → Table A → Table A
added a x = record { slots = placed a x.slots; next = x.next + 1 }

-- the slot of the first live record that passes the test becomes p: another record, or free
unfoldable pub exchanged : {A : Type 0} → (A → Bool) → Slot A → List (Slot A) → List (Slot A)
exchanged f p [] = []
exchanged f p (free ∷ ps) = free ∷ exchanged f p ps
exchanged f p (live a ∷ ps) = if f a then p ∷ ps else live a ∷ exchanged f p ps

-- the records that pass the test stay; the others are freed
unfoldable pub retained : {A : Type 0} → (A → Bool) → List (Slot A) → List (Slot A)
retained f [] = []
retained f (free ∷ ps) = free ∷ retained f ps
retained f (live a ∷ ps) = (if f a then live a else free) ∷ retained f ps
