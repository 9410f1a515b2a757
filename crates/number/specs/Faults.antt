-- To believe: a number at a place in the scope's words, said of the bytes there and not by the reader.
--
--   GoesOn s at n      == n bytes stand at the place, and each has its top bit set: the number goes on past them
--   Faulty s at r p    == the scope's condition of the refusal r, of the number that starts at the place; and p is the byte at fault,
--                         as the scope wants it shown
--   worth s at n       == what n bytes with their top bit set and the byte after them are worth, the lowest group of seven bits first
--   Sound s at v next  == a number stands at the place: v is what it is worth, and next is the place past its last byte
--   Told s at u        == the bytes at the place say u: a sound number; or a fault of the number, with the byte at fault
--   AllBytes s         == each number of s is a byte, as all are that a call is lent
use Rattle.std.specs.Prelude.{ℕ, zero, suc, ◌+◌, ◌-◌, ◌*◌, ◌<◌, ◌≤◌, ◌≡◌, List, length, get_or}
use Rattle.refusal.specs.declared.Refusal.{Refusal}
use Rattle.refusal.specs.declared.Refusal.TheVariants as because
use Rattle.number.specs.Reading.{Reading, read, fault}

unfoldable pub GoesOn : List ℕ → ℕ → ℕ → Type 0
GoesOn s at n = (i : ℕ) → i < n → (at + i < length s) × (128 ≤ get_or s (at + i) 0)

module _ (s : List ℕ) (at : ℕ) where
  unfoldable pub Faulty : Refusal → ℕ → Type 0
  -- bytes end before a number does and before its third byte: shown by the length of the bytes
  Faulty because.Ends p = (n : ℕ) × (n < 3) × GoesOn s at n × (length s ≤ at + n) × (p ≡ length s)
  -- a number's last byte is 0 and not its only one: shown by the zero byte
  Faulty because.Padded p =
      (n : ℕ) × (0 < n) × (n < 3) × GoesOn s at n × (at + n < length s) × (get_or s (at + n) 0 ≡ 0) × (p ≡ at + n)
  -- a third byte has its top bit set: shown by that byte, the last one read
  Faulty because.Range p = GoesOn s at 3 × (p ≡ at + 2)
  -- the others are not for a number by itself
  Faulty because.Rule p = ⊥
  Faulty because.Length p = ⊥
  Faulty because.Slanted p = ⊥
  Faulty because.Unturned p = ⊥
  Faulty because.Empty p = ⊥
  Faulty because.Table p = ⊥
  Faulty because.List p = ⊥
  Faulty because.Extra p = ⊥
  Faulty because.Long p = ⊥
  Faulty because.Missing p = ⊥
  Faulty because.Room p = ⊥
  Faulty because.Preset p = ⊥
  Faulty because.Record p = ⊥
  Faulty because.Unclosed p = ⊥
  Faulty because.Extent p = ⊥
  Faulty because.Largest p = ⊥
  Faulty because.Full p = ⊥
  Faulty because.Shots p = ⊥
  Faulty because.Text p = ⊥
  Faulty because.Edge p = ⊥

unfoldable pub worth : List ℕ → ℕ → ℕ → ℕ
worth s at zero = get_or s at 0
worth s at (suc n) = (get_or s at 0 - 128) + 128 * worth s (at + 1) n

pub record Sound (s : List ℕ) (at v next : ℕ) : Type 0 where
  -- how many bytes stand before its last: it has three at most
  pub before : ℕ
  pub few : before < 3
  pub goes : GoesOn s at before
  pub there : at + before < length s
  pub last : get_or s (at + before) 0 < 128
  -- it has the fewest bytes possible
  pub fewest : 0 < before → 0 < get_or s (at + before) 0
  pub value : v ≡ worth s at before
  pub past : next ≡ at + before + 1

abbrev pub Told : List ℕ → ℕ → Reading ℕ → Type 0
Told s at (read v next) = Sound s at v next
Told s at (fault r p) = Faulty s at r p

abbrev pub AllBytes : List ℕ → Type 0
AllBytes s = (i : ℕ) → get_or s i 0 < 256
