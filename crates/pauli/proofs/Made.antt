-- Arrays that `array::from_fn` makes: what stands at each place, where each call of the closure leaves it as it was. Assumes nothing.
use mathlib.Core.Path.{◌≡◌, refl, ap, ◌∙◌}
use mathlib.Core.List.{List}
use Prim.Native.Nat.{ℕ, zero, suc, ◌+◌, ◌≤◌, ◌<◌}
use native.Mathlib.Omega.{arith}
use Rattle.std.specs.Fn.{Mut, Called}
use Rattle.std.specs.Array.{IsFromFnResultFrom, IsFromFnResult}
use Rattle.arith.specs.Bytes.{tab}
use Rattle.arith.specs.declared.residue.Residue.{Residue}
use Rattle.arith.proofs.Bytes.{tab_ext}
use Rattle.arith.proofs.Cases.{by_eq}
use Rattle.pauli.specs.Inner.View.{at, entries}

module _ {F : Type 0} {g : Mut F (ℕ × Unit {0}) Residue} (h : ℕ → ℕ) {f : F} (gives : (i : ℕ) (x : Residue) (q : F) → Called g f (i, tt) x q → (q ≡ f) × (x.0 ≡ h i)) where
  made_from : (xs : List Residue) (k m : ℕ) (q : F) → q ≡ f → IsFromFnResultFrom g q xs k m → (i : ℕ) → k ≤ i → i < k + m → at xs i ≡ h i
  made_from xs k zero q e made i l r = absurd (omega arith)
  made_from xs k (suc m) q e (next, x, here, call, rest) i l r =
      let z = gives k x next (rw e at call) in
      by_eq i k
      (λ p. rw p (ap (λ (y : Residue). y.0) (here.1 (record { 0 = 0 })) ∙ z.1))
      (λ ne. made_from xs (k + 1) m next z.0 rest i (omega arith) (omega arith))

  pub made : {xs : List Residue} {m : ℕ} → IsFromFnResult g f xs m → (n : ℕ) → n ≤ m → entries n xs ≡ tab h n
  made {xs} {m} r n l = tab_ext (at xs) h n (λ i k. made_from xs 0 m f refl r.each i (omega arith) (omega arith))
