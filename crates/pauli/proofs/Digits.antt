-- Lists of m digits below d are the numbers below dᵐ.
use mathlib.Core.Path.{◌≡◌, refl, ◌∙◌, ap}
use mathlib.Core.List.{List, [], ◌∷◌}
use Prim.Native.Nat.{ℕ, zero, suc, ◌+◌, ◌*◌, ◌-◌, ◌/◌, ◌%◌, ◌<◌}
use native.Mathlib.Nat.{zero-add, mul_comm, div-eq_of_lt, mod-lt, mod-eq_of_lt, mod-add-div, add-mul-mod_self_left, add-mul-div_left, div-lt_iff_lt-mul}
use native.Mathlib.Omega.{arith}
use lib.ListN.{length}
use Rattle.pauli.specs.Pauli.{Below, none, more}
use Rattle.pauli.proofs.Lists.{cons_path}

abbrev pub count : ℕ → ℕ → ℕ
count d zero = 1
count d (suc m) = d * count d m

abbrev pub encode : ℕ → List ℕ → ℕ
encode d [] = 0
encode d (x ∷ xs) = x + d * encode d xs

abbrev pub decode : ℕ → ℕ → ℕ → List ℕ
decode d zero k = []
decode d (suc m) k = k % d ∷ decode d m (k / d)

pub decode_length : (d m k : ℕ) → length (decode d m k) ≡ m
decode_length d zero k = refl
decode_length d (suc m) k = ap suc (decode_length d m (k / d))

pub decode_below : (d m k : ℕ) → 0 < d → Below d (decode d m k)
decode_below d zero k pos = none
decode_below d (suc m) k pos = more (mod-lt k pos) (decode_below d m (k / d) pos)

quotient_below : (d c k : ℕ) → 0 < d → k < d * c → k / d < c
quotient_below d c k pos l = (div-lt_iff_lt-mul pos).1 (rw (mul_comm c d) l)

pub encode_decode : (d m k : ℕ) → 0 < d → k < count d m → encode d (decode d m k) ≡ k
encode_decode d zero k pos l = omega arith
encode_decode d (suc m) k pos l =
    ap (λ (x : ℕ). k % d + d * x) (encode_decode d m (k / d) pos (quotient_below d (count d m) k pos l))
    ∙ mod-add-div k d

pub decode_encode : {d : ℕ} (m : ℕ) {xs : List ℕ} → 0 < d → length xs ≡ m → Below d xs → decode d m (encode d xs) ≡ xs
decode_encode zero pos e none = refl
decode_encode (suc m) pos e none = absurd (omega arith)
decode_encode zero pos e (more h b) = absurd (omega arith)
decode_encode {d} (suc m) pos e (more {x = x} {xs = xs} h b) = cons_path
    (add-mul-mod_self_left x d (encode d xs) ∙ mod-eq_of_lt h)
    (ap (decode d m) (add-mul-div_left x (encode d xs) pos ∙ ap (λ (y : ℕ). y + encode d xs) (div-eq_of_lt h) ∙ zero-add (encode d xs)) ∙ decode_encode m pos (omega arith) b)

digit_below : (d x c e : ℕ) → x < d → e < c → x + d * e < d * c
digit_below d x c e h l = go (c - suc e) refl
  where
    go : (r : ℕ) → c - suc e ≡ r → x + d * e < d * c
    go r f = let g : c ≡ suc e + r = omega arith in rw g (omega arith)

pub encode_below : {d : ℕ} (m : ℕ) {xs : List ℕ} → length xs ≡ m → Below d xs → encode d xs < count d m
encode_below zero e none = omega arith
encode_below (suc m) e none = absurd (omega arith)
encode_below zero e (more h b) = absurd (omega arith)
encode_below {d} (suc m) e (more {x = x} {xs = xs} h b) = digit_below d x (count d m) (encode d xs) h (encode_below m (omega arith) b)
