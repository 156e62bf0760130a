-- Demand 3, assembled. For every d above 1, every n and every tableau t in range:
--   t is what some list of legal rows makes of the unit Paulis, of any length, exactly when t is sound;
--   then the list `synthesised d n t` does it, has at most 5·n² + 6·n rows, and carries every Pauli to its image under t.
use mathlib.Core.Path.{◌≡◌, sym, ◌∙◌, ap, subst}
use mathlib.Core.List.{List}
use mathlib.Core.Logic.{◌↔◌, ◌⊎◌}
use Prim.Native.Nat.{ℕ, ◌+◌, ◌*◌, ◌≤◌, ◌<◌}
use native.Mathlib.Omega.{arith}
use lib.ListN.{length}
use lib.Seq.{ext_get_or}
use Rattle.pauli.specs.Pauli.{Pauli, InRange, phase_only}
use Rattle.gates.specs.Row.{Row, run}
use Rattle.tableau.specs.Tableau.{WellFormed, Sound, column, tableau_of, image}
use Rattle.tableau.proofs.Run.{run_image, tableau_formed, tableau_column, tableau_sound}
use Rattle.tableau.specs.Soundness.{soundness_of}
use Rattle.tableau.proofs.Tests.{soundness_says}
use Rattle.synthesis.specs.Inner.Reduce.{synthesised}
use Rattle.synthesis.specs.Demand3.{Realises, Realisable}
use Rattle.synthesis.proofs.Theorem.{synthesis, Synthesis}

module _ {d n : ℕ} {t : List Pauli} (one : 1 < d) (formed : WellFormed d n t) where
  -- a list that realises t has the tableau t, and carries every Pauli to its image under t
  pub realises_tableau : (rows : List Row) → Realises d n rows t → tableau_of d n rows ≡ t
  realises_tableau rows h =
      let f = tableau_formed one h.legal in
      ext_get_or (phase_only n 0) (tableau_of d n rows) t (f.columns ∙ sym formed.columns)
      (λ j l. let b : j < 2 * n = omega (arith, f.columns) in tableau_column one h.legal j b ∙ h.carries j b)

  pub realises_image : (rows : List Row) → Realises d n rows t → (p : Pauli) → InRange d n p → run d rows p ≡ image d n t p
  realises_image rows h p a = run_image one h.legal p a ∙ ap (λ (u : List Pauli). image d n u p) (realises_tableau rows h)

  -- ---- what is realised is sound, so an unsound tableau is realised by no list
  pub realises_sound : (rows : List Row) → Realises d n rows t → Sound d n t
  realises_sound rows h = subst (Sound d n) (realises_tableau rows h) (tableau_sound one h.legal)

  pub unsound_unrealisable : ¬ Sound d n t → (rows : List Row) → Realises d n rows t → ⊥
  unsound_unrealisable f rows h = f (realises_sound rows h)

  -- ---- what is sound is realised
  pub sound_realised : Sound d n t
      → Realises d n (synthesised d n t) t
      × (length (synthesised d n t) ≤ 5 * (n * n) + 6 * n)
      × ((p : Pauli) → InRange d n p → run d (synthesised d n t) p ≡ image d n t p)
  sound_realised sound = (realised, s.short, realises_image (synthesised d n t) realised)
    where
      s : Synthesis d n t (synthesised d n t)
      s = synthesis one formed sound

      realised : Realises d n (synthesised d n t) t
      realised = record { legal = s.legal; carries = λ j l. sym (tableau_column one s.legal j l) ∙ ap (λ (u : List Pauli). column n u j) s.does }

  -- ---- exactly
  pub realisable_sound : Realisable d n t ↔ Sound d n t
  realisable_sound = (λ z. realises_sound z.0 z.1, λ sound. (synthesised d n t, (sound_realised sound).0))

  -- no refusal exactly where some list realises t; refused as unrealisable, by 7 or by 8, exactly where none does
  pub accepted_realisable : (soundness_of d n t ≡ 0) ↔ Realisable d n t
  accepted_realisable =
      let says = soundness_says {d = d} {n = n} {t = t} in (
        λ e. let y = says.accepted.0 e in realisable_sound.1 (record { pairing = y.0; parities = y.1 }),
        λ z. let sound = realisable_sound.0 z in says.accepted.1 (sound.pairing, sound.parities),
      )

  pub refused_unrealisable : ((soundness_of d n t ≡ 7) ⊎ (soundness_of d n t ≡ 8)) ↔ ¬ Realisable d n t
  refused_unrealisable =
      let says = soundness_says {d = d} {n = n} {t = t} in (
        λ e z. let sound = realisable_sound.0 z in says.refused.0 e (sound.pairing, sound.parities),
        λ f. says.refused.1 (λ y. f (realisable_sound.1 (record { pairing = y.0; parities = y.1 }))),
      )
