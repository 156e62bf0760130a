-- The effect of each kind of row is local: it sets entries of its qudits and adds a number to the phase, and what it sets and adds depends on the entries of its qudits alone. So two effects on
-- different qudits may be exchanged. That holds for every d, every power and every Pauli, in range or not. An effect on one qudit counts as one on two qudits that are the same.
use mathlib.Core.Path.{◌≡◌, refl, sym, ap, ◌∙◌}
use mathlib.Core.List.{List}
use mathlib.Core.Logic.{◌≢◌}
use Prim.Native.Nat.{ℕ, zero, suc, ◌+◌, ◌*◌, ◌%◌}
use native.Mathlib.Nat.{mod-add-mod}
use native.Mathlib.Omega.{arith}
use lib.ListN.{get_or, set}
use lib.Seq.{set_comm, get_or-set_other}
use Rattle.arith.specs.Residues.{neg}
use Rattle.arith.specs.Units.{inverse_of}
use Rattle.pauli.specs.Pauli.{Pauli}
use Rattle.pauli.specs.Effects.{times, fourier, effect_s, effect_a, effect_m, effect_x, effect_z, effect_c, effect_w}
use Rattle.pauli.proofs.Ranges.{pauli_path}

-- ---- entries set, one after the other, each at i or at j
pub data Sets (i j : ℕ) : Type 0 where
  unset : Sets i j
  first_set : ℕ → Sets i j → Sets i j
  second_set : ℕ → Sets i j → Sets i j

abbrev pub set_all : {i j : ℕ} → Sets i j → List ℕ → List ℕ
set_all unset xs = xs
set_all {i} {j} (first_set a s) xs = set_all s (set xs i a)
set_all {i} {j} (second_set a s) xs = set_all s (set xs j a)

-- no other entry changes
set_elsewhere : {i j : ℕ} (s : Sets i j) (xs : List ℕ) (q : ℕ) → q ≢ i → q ≢ j → get_or (set_all s xs) q 0 ≡ get_or xs q 0
set_elsewhere unset xs q f g = refl
set_elsewhere {i} {j} (first_set a s) xs q f g = set_elsewhere s (set xs i a) q f g ∙ get_or-set_other xs i q a 0 f
set_elsewhere {i} {j} (second_set a s) xs q f g = set_elsewhere s (set xs j a) q f g ∙ get_or-set_other xs j q a 0 g

-- ---- what an effect does to the phase: nothing, or it adds a number modulo 2d
pub data Gain : Type 0 where
  nothing : Gain
  adds : ℕ → Gain

abbrev pub gained : ℕ → Gain → ℕ → ℕ
gained d nothing h = h
gained d (adds c) h = (h + c) % (2 * d)

gained_exchanged : (d : ℕ) (a b : Gain) (h : ℕ) → gained d a (gained d b h) ≡ gained d b (gained d a h)
gained_exchanged d nothing b h = refl
gained_exchanged d (adds x) nothing h = refl
gained_exchanged d (adds x) (adds y) h =
    mod-add-mod (h + y) (2 * d) x ∙ ap (λ (z : ℕ). z % (2 * d)) (omega arith) ∙ sym (mod-add-mod (h + x) (2 * d) y)

-- ---- what an effect does, and a Pauli that it was done to
pub record Effect (i j : ℕ) : Type 0 where
  pub gain : Gain
  pub v : Sets i j
  pub w : Sets i j

abbrev pub changed : {i j : ℕ} → ℕ → Effect i j → Pauli → Pauli
changed d e p = record { phase = gained d e.gain p.phase; v = set_all e.v p.v; w = set_all e.w p.w }

-- f is local at the qudits i and j: what it does depends on v and w of qudit i and v and w of qudit j alone
pub record Local (d i j : ℕ) (f : Pauli → Pauli) : Type 0 where
  pub effect : ℕ → ℕ → ℕ → ℕ → Effect i j
  pub does : (p : Pauli) → f p ≡ changed d (effect (get_or p.v i 0) (get_or p.w i 0) (get_or p.v j 0) (get_or p.w j 0)) p

-- ---- two of them on different qudits
pub record Different (i j k l : ℕ) : Type 0 where
  pub first_first : i ≢ k
  pub first_second : i ≢ l
  pub second_first : j ≢ k
  pub second_second : j ≢ l

module _ {i j k l : ℕ} (apart : Different i j k l) where
  set_before : (s : Sets k l) (xs : List ℕ) (q a : ℕ) → q ≢ k → q ≢ l → set_all s (set xs q a) ≡ set (set_all s xs) q a
  set_before unset xs q a f g = refl
  set_before (first_set b s) xs q a f g = ap (set_all s) (set_comm xs q k a b f) ∙ set_before s (set xs k b) q a f g
  set_before (second_set b s) xs q a f g = ap (set_all s) (set_comm xs q l a b g) ∙ set_before s (set xs l b) q a f g

  sets_exchanged : (s : Sets i j) (t : Sets k l) (xs : List ℕ) → set_all t (set_all s xs) ≡ set_all s (set_all t xs)
  sets_exchanged unset t xs = refl
  sets_exchanged (first_set a s) t xs = sets_exchanged s t (set xs i a) ∙ ap (set_all s) (set_before t xs i a apart.first_first apart.first_second)
  sets_exchanged (second_set a s) t xs = sets_exchanged s t (set xs j a) ∙ ap (set_all s) (set_before t xs j a apart.second_first apart.second_second)

  changed_exchanged : (d : ℕ) (e : Effect i j) (h : Effect k l) (p : Pauli) → changed d e (changed d h p) ≡ changed d h (changed d e p)
  changed_exchanged d e h p = pauli_path (gained_exchanged d e.gain h.gain p.phase) (sym (sets_exchanged e.v h.v p.v)) (sym (sets_exchanged e.w h.w p.w))

  -- what the one does depends on entries that the other leaves alone
  known_elsewhere : {A : Type 0} (d : ℕ) (effect : ℕ → ℕ → ℕ → ℕ → A) (h : Effect k l) (p : Pauli)
      → let r = changed d h p in effect (get_or r.v i 0) (get_or r.w i 0) (get_or r.v j 0) (get_or r.w j 0) ≡ effect (get_or p.v i 0) (get_or p.w i 0) (get_or p.v j 0) (get_or p.w j 0)
  known_elsewhere d effect h p = λ x. effect
      (set_elsewhere h.v p.v i apart.first_first apart.first_second x) (set_elsewhere h.w p.w i apart.first_first apart.first_second x)
      (set_elsewhere h.v p.v j apart.second_first apart.second_second x) (set_elsewhere h.w p.w j apart.second_first apart.second_second x)

different_exchanged : {i j k l : ℕ} → Different i j k l → Different k l i j
different_exchanged a = record {
  first_first = λ e. a.first_first (sym e);
  first_second = λ e. a.second_first (sym e);
  second_first = λ e. a.first_second (sym e);
  second_second = λ e. a.second_second (sym e);
}

pub local_exchanged : {d i j k l : ℕ} {f g : Pauli → Pauli} → Different i j k l → Local d i j f → Local d k l g → (p : Pauli) → f (g p) ≡ g (f p)
local_exchanged {d} {i} {j} {k} {l} {f} {g} apart a b p =
    ap f (b.does p) ∙ a.does (changed d of_g p) ∙ ap (λ (e : Effect i j). changed d e (changed d of_g p)) (known_elsewhere apart d a.effect of_g p)
    ∙ changed_exchanged apart d of_f of_g p
    ∙ sym (ap g (a.does p) ∙ b.does (changed d of_f p) ∙ ap (λ (e : Effect k l). changed d e (changed d of_f p)) (known_elsewhere (different_exchanged apart) d b.effect of_f p))
  where
    of_f : Effect i j
    of_f = a.effect (get_or p.v i 0) (get_or p.w i 0) (get_or p.v j 0) (get_or p.w j 0)

    of_g : Effect k l
    of_g = b.effect (get_or p.v k 0) (get_or p.w k 0) (get_or p.v l 0) (get_or p.w l 0)

-- ---- each any number of times
times_exchanged : (f g : Pauli → Pauli) (m : ℕ) → ((p : Pauli) → f (g p) ≡ g (f p)) → (p : Pauli) → f (times m g p) ≡ times m g (f p)
times_exchanged f g zero e p = refl
times_exchanged f g (suc m) e p = e (times m g p) ∙ ap g (times_exchanged f g m e p)

pub both_exchanged : (f g : Pauli → Pauli) (k m : ℕ) → ((p : Pauli) → f (g p) ≡ g (f p)) → (p : Pauli) → times k f (times m g p) ≡ times m g (times k f p)
both_exchanged f g k m e p = sym (times_exchanged (times m g) f k (λ r. sym (times_exchanged f g m e r)) p)

-- ---- the kinds
-- F, once
pub fourier_local : (d i : ℕ) → Local d i i (fourier d i)
fourier_local d i = record {
  effect = λ x z y u. record { gain = adds (neg (2 * d) (2 * (x * z))); v = first_set (neg d z % d) unset; w = first_set x unset };
  does = λ p. refl;
}

module _ (d i k : ℕ) where
  pub s_local : Local d i i (effect_s d i k)
  s_local = record {
    effect = λ x z y u. record { gain = adds (k * (x * (x + d))); v = unset; w = first_set ((z + k * x) % d) unset };
    does = λ p. refl;
  }

  pub m_local : Local d i i (effect_m d i k)
  m_local = record {
    effect = λ x z y u. record { gain = nothing; v = first_set (k * x % d) unset; w = first_set (inverse_of d k * z % d) unset };
    does = λ p. refl;
  }

  pub x_local : Local d i i (effect_x d i k)
  x_local = record { effect = λ x z y u. record { gain = adds (neg (2 * d) (2 * (k * z))); v = unset; w = unset }; does = λ p. refl }

  pub z_local : Local d i i (effect_z d i k)
  z_local = record { effect = λ x z y u. record { gain = adds (2 * (k * x)); v = unset; w = unset }; does = λ p. refl }

module _ (d i j k : ℕ) where
  pub a_local : Local d i j (effect_a d i j k)
  a_local = record {
    effect = λ x z y u. record { gain = nothing; v = second_set ((y + k * x) % d) unset; w = first_set ((z + neg d (k * u)) % d) unset };
    does = λ p. refl;
  }

  pub c_local : Local d i j (effect_c d i j k)
  c_local = record {
    effect = λ x z y u. record { gain = adds (2 * (k * (x * y))); v = unset; w = first_set ((z + k * y) % d) (second_set ((u + k * x) % d) unset) };
    does = λ p. refl;
  }

-- W has no power
pub w_local : (d i j : ℕ) → Local d i j (effect_w i j)
w_local d i j = record {
  effect = λ x z y u. record { gain = nothing; v = first_set y (second_set x unset); w = first_set u (second_set z unset) };
  does = λ p. refl;
}
