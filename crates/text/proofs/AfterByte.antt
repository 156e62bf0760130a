-- Laws of one byte of the reader, which its code cites. Assumes nothing.
use mathlib.Core.Path.{◌≡◌, refl}
use mathlib.Core.Bool.{Bool, true, false, cond}
use mathlib.Core.List.{List, []}
use Rattle.std.specs.Prelude.{Option, None, Some}
use Rattle.std.specs.Option.{option_map}
use Prim.Native.Nat.{ℕ, ◌+◌, ◌≤◌, ◌<◌}
use native.Mathlib.Numerals.{add-one}
use native.Mathlib.Omega.{arith}
use lib.Dec.{eqb}
use lib.ListN.{length, get_or, drop}
use lib.Seq.{drop-cons}
use Rattle.text.specs.Inner.Scan.{Within, used, value_of, grown_of, letter_due, in_head, after_line, with_field, comma_of, head_comma, body_comma, line_of, head_line, body_line, ended_of, after_byte, out_after_byte, scanned}
use Rattle.text.specs.declared.reading.Field.{Field}
use Rattle.text.specs.declared.reading.Field.TheVariants.{Empty, Number, Zero, Letter}
use Rattle.text.specs.declared.reading.Form.{Form}
use Rattle.text.specs.declared.reading.State.{State}

-- what holds of both holds of the one that a test picks
pub by_cond : {A : Type 0} (P : A → Type 0) (h : Bool) {a b : A} → P a → P b → P (cond h a b)
by_cond P true p q = p
by_cond P false p q = q

-- a field that holds a value has a byte
pub used_one : (f : Field) (x : ℕ) → value_of f ≡ Some x → used f ≡ 1
used_one Empty x e = cc
used_one (Number y) x e = refl
used_one Zero x e = refl
used_one (Letter k) x e = refl

used_le : (f : Field) → used f ≤ 1
used_le Empty = omega arith
used_le (Number y) = omega arith
used_le Zero = omega arith
used_le (Letter k) = omega arith

within_comma : (i : ℕ) (s : State) (x : ℕ) → Within i s → used s.field ≡ 1 → Within (i + 1) (comma_of s x)
unfolding comma_of
within_comma i s x w u = by_cond (Within (i + 1)) (in_head s.form) {a = head_comma s x} {b = body_comma s x} (omega arith) (omega arith)

-- the counts of the state that comes next, where there is one
abbrev pub WithinNext : ℕ → Option State → Type 0
WithinNext i None = Unit {0}
WithinNext i (Some s) = Within i s

within_line : (i : ℕ) (s : State) (x : ℕ) → Within i s → used s.field ≡ 1 → WithinNext (i + 1) (line_of s x)
unfolding line_of
within_line i s x w u = go (after_line s.form s.place)
  where
    go : (o : Option Form) → WithinNext (i + 1) (option_map (λ f. cond (in_head s.form) (head_line s x f) (body_line s x f)) o)
    go None = tt
    go (Some f) = by_cond (Within (i + 1)) (in_head s.form) {a = head_line s x f} {b = body_line s x f} (omega arith) (omega arith)

within_ended : (i : ℕ) (s : State) (b : ℕ) (v : Option ℕ) → value_of s.field ≡ v → Within i s → WithinNext (i + 1) (ended_of s v b)
within_ended i s b None e w = tt
within_ended i s b (Some x) e w =
    let u = used_one s.field x e in
    by_cond (WithinNext (i + 1)) (eqb b 44) {a = Some (comma_of s x)} {b = line_of s x} (within_comma i s x w u) (within_line i s x w u)

within_grown : (i : ℕ) (s : State) (o : Option Field) → Within i s → WithinNext (i + 1) (option_map (with_field s) o)
within_grown i s None w = tt
within_grown i s (Some f) w = omega (arith, used_le f)

-- the counts stay within the bytes read
pub within_byte : (i : ℕ) (s : State) (b : ℕ) → Within i s → WithinNext (i + 1) (after_byte s b)
unfolding after_byte
within_byte i s b w =
    by_cond (WithinNext (i + 1)) (eqb b 44) (within_ended i s 44 (value_of s.field) refl w)
    (by_cond (WithinNext (i + 1)) (eqb b 10) (within_ended i s 10 (value_of s.field) refl w)
    (within_grown i s (grown_of s.field (letter_due s.form s.place) b) w))

-- one byte more of a scan
pub scanned_more : (s next : State) (out text : List ℕ) (i : ℕ) → i < length text → after_byte s (get_or text i 0) ≡ Some next
    → scanned s out (drop i text) ≡ scanned next (out_after_byte s (get_or text i 0) out) (drop (i + 1) text)
unfolding scanned
scanned_more s next out text i h e = rw (add-one, drop-cons text i 0, e)

-- the next byte breaks the layout
pub scanned_stop : (s : State) (out text : List ℕ) (i : ℕ) → i < length text → after_byte s (get_or text i 0) ≡ None → scanned s out (drop i text) ≡ None
unfolding scanned
scanned_stop s out text i h e = rw (drop-cons text i 0, e)

pub scanned_none : (s : State) (out : List ℕ) → scanned s out [] ≡ Some (record { state = s; out = out })
unfolding scanned
scanned_none s out = refl
