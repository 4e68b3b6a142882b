-- The order chosen.
use Rattle.std.specs.Prelude.{ℕ, Bool, cond, List, Ok, Err, Option, Result, ◌==◌}
use Rattle.std.specs.Result.{result_ok}
use Rattle.crf.specs.Fences.{Row}
use Rattle.orders.specs.Tables.{no_fences, sc_takes, sc_before, ScKeeps, tso_takes, tso_before, TsoKeeps, pso_takes, pso_before, PsoKeeps, rmo_takes, rmo_before, RmoKeeps, ibm_takes, ibm_before, IbmKeeps, ia_takes, ia_before, ia_after, IaKeeps}
use Rattle.orders.specs.declared.entries.Access.{Access}
use Rattle.orders.specs.declared.entries.Shape.{Shape}
use Rattle.orders.specs.declared.chosen.AnyOrder.{AnyOrder}
use Rattle.orders.specs.declared.chosen.UnknownCode.{UnknownCode}
use Rattle.orders.specs.declared.chosen.AnyOrder.TheVariants.{Sc, Tso, Pso, Rmo, Ibm370, Ia64}

abbrev pub any_takes : AnyOrder → Shape → Bool
any_takes Sc = sc_takes
any_takes Tso = tso_takes
any_takes Pso = pso_takes
any_takes Rmo = rmo_takes
any_takes Ibm370 = ibm_takes
any_takes Ia64 = ia_takes

abbrev pub any_before : AnyOrder → Shape → List Row
any_before Sc = sc_before
any_before Tso = tso_before
any_before Pso = pso_before
any_before Rmo = rmo_before
any_before Ibm370 = ibm_before
any_before Ia64 = ia_before

abbrev pub any_after : AnyOrder → Shape → List Row
any_after Sc = no_fences
any_after Tso = no_fences
any_after Pso = no_fences
any_after Rmo = no_fences
any_after Ibm370 = no_fences
any_after Ia64 = ia_after

abbrev pub AnyKeeps : AnyOrder → Access → List Shape → Access → Type 0
AnyKeeps Sc = ScKeeps
AnyKeeps Tso = TsoKeeps
AnyKeeps Pso = PsoKeeps
AnyKeeps Rmo = RmoKeeps
AnyKeeps Ibm370 = IbmKeeps
AnyKeeps Ia64 = IaKeeps

-- the codes of files: 1 sc, 2 tso, 3 pso, 4 rmo, 5 370, 6 ia64
abbrev pub code_of : AnyOrder → ℕ
code_of Sc = 1
code_of Tso = 2
code_of Pso = 3
code_of Rmo = 4
code_of Ibm370 = 5
code_of Ia64 = 6

-- the order of a code, or that it names none
abbrev pub order_named : ℕ → Result AnyOrder UnknownCode
order_named c =
    cond (c == 1) (Ok Sc) (cond (c == 2) (Ok Tso) (cond (c == 3) (Ok Pso)
    (cond (c == 4) (Ok Rmo) (cond (c == 5) (Ok Ibm370) (cond (c == 6) (Ok Ia64) (Err (record {})))))))

-- the order of a code, if it names one
abbrev pub order_by_code : ℕ → Option AnyOrder
order_by_code c = result_ok (order_named c)
