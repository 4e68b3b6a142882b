-- Records worked in turn, one record at a time.
use Rattle.std.proofs.Common.{◌≡◌, ℕ, zero, suc, ◌+◌, ◌-◌, ◌<◌, Some, None, Ok, Err, Result, sym, refl, ap, ◌∙◌, arith}
use Rattle.audit.specs.declared.fault.RowFault.{RowFault}
use Rattle.audit.specs.Turns.{Taken, worked, worked_by}

module _ {D : Type 0} (one : ℕ → D → Taken D) where
  -- record k is answered `r`, and leaves `e`
  worked_on : (m k : ℕ) (d e : D) (r : Result (Unit {0}) RowFault) → record { answer = r; after = e } ≡ one k d → worked one (suc m) k d ≡ worked_by (worked one m (k + 1)) k r e
  unfolding worked
  worked_on m k d e r q = ap (λ (t : Taken D). worked_by (worked one m (k + 1)) k t.answer t.after) (sym q)

  -- a record that is accepted
  pub worked_next : (m k : ℕ) (d e : D) (r : Result (Unit {0}) RowFault) → 0 < m → record { answer = r; after = e } ≡ one k d → r ≡ Ok tt → worked one m k d ≡ worked one (m - 1) (k + 1) e
  worked_next zero k d e r h q a = absurd (omega arith)
  worked_next (suc m) k d e r h q a =
      let s : m ≡ suc m - 1 = omega arith in
      worked_on m k d e r q ∙ ap (λ x. worked_by (worked one m (k + 1)) k x e) a ∙ ap (λ (n : ℕ). worked one n (k + 1) e) s

  -- a record that is refused
  pub worked_stop : (m k : ℕ) (d e : D) (r : Result (Unit {0}) RowFault) → 0 < m → record { answer = r; after = e } ≡ one k d → (f : RowFault) → r ≡ Err f → worked one m k d ≡ record { after = e; stopped = Some (record { place = k; fault = f }) }
  worked_stop zero k d e r h q f a = absurd (omega arith)
  worked_stop (suc m) k d e r h q f a = worked_on m k d e r q ∙ ap (λ x. worked_by (worked one m (k + 1)) k x e) a

  pub worked_end : (m k : ℕ) (d : D) → m ≡ 0 → worked one m k d ≡ record { after = d; stopped = None }
  unfolding worked
  worked_end zero k d h = refl
  worked_end (suc m) k d h = absurd (omega arith)
