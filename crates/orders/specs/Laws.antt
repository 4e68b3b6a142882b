-- The laws of the memory orders.
use Rattle.std.specs.Prelude.{◌≡◌, ℕ, ◌≤◌, Bool, true, List, [], ◌∷◌, ◌++◌, ◌==◌, refl}
use Rattle.std.proofs.Common.{inl, inr, arith}
use Rattle.std.proofs.Math.Path.{subst⁻¹}
use Rattle.std.proofs.lemmas.Bool.Decides.{nat_tests}
use Rattle.std.specs.List.{AllByRecursion}
use Rattle.orders.specs.Lists.{Some}
use Rattle.crf.specs.Fences.{Row, star_star}
use Rattle.orders.specs.Fences.{by_mask, if_has, has}
use Rattle.orders.specs.Order.{Fits, Fenced, kind_of, standing}
use Rattle.orders.specs.Tables.{AcrossBarrier, Bars, bit_of, no_fences, sc_takes, sc_before, sc_access, ScKeeps, tso_takes, tso_before, TsoKinds, TsoKeeps, pso_takes, pso_before, PsoKinds, PsoKeeps, rmo_takes, rmo_before, RmoKeeps, ibm_takes, ibm_before, ibm_access, IbmKeeps, ia_takes, ia_before, ia_after, ia_release, ia_acquire, ia_acquired, IaKeeps}
use Rattle.crf.specs.declared.instruction.FenceKind.{FenceKind}
use Rattle.crf.specs.declared.instruction.FenceKind.TheVariants.{Rr, Rw, Wr, Ww}
use Rattle.orders.specs.declared.entries.Op.{Op}
use Rattle.orders.specs.declared.entries.Op.TheVariants.{Load, Store}
use Rattle.orders.specs.declared.entries.Mark.{Mark}
use Rattle.orders.specs.declared.entries.Access.{Access}
use Rattle.orders.specs.declared.entries.Shape.{Shape}
use Rattle.orders.specs.declared.entries.Shape.TheVariants.{Access as AccessOf, Barrier}
use Rattle.orders.specs.Chosen.{any_takes, any_before, any_after, AnyKeeps}
use Rattle.orders.specs.declared.chosen.AnyOrder.{AnyOrder}
use Rattle.orders.specs.declared.chosen.AnyOrder.TheVariants.{Sc, Tso, Pso, Rmo, Ibm370, Ia64}
use Rattle.orders.specs.Between.{some_left, some_right, at_first, at_second, at_some, fits-star_to, fits-from_star, fits-star_star, fits-at_at}

-- a mask that has a bit has the fence
one : (P : Row → Type 0) (m b : ℕ) (k : FenceKind) → has m b ≡ true → P (star_star k) → Some P (if_has m b k)
one P m b k h p = rw h (inl p)

-- the fences of a mask's first two bits, and of its first three
abbrev first_two : ℕ → List Row
first_two m = if_has m 1 Rr ++ if_has m 2 Rw

abbrev first_three : ℕ → List Row
first_three m = first_two m ++ if_has m 4 Wr

pub in_mask : (P : Row → Type 0) (m : ℕ) (k : FenceKind) → has m (bit_of k) ≡ true → P (star_star k) → Some P (by_mask m)
in_mask P m Rr h p = some_left P (first_three m) (if_has m 8 Ww) (some_left P (first_two m) (if_has m 4 Wr) (some_left P (if_has m 1 Rr) (if_has m 2 Rw) (one P m 1 Rr h p)))
in_mask P m Rw h p = some_left P (first_three m) (if_has m 8 Ww) (some_left P (first_two m) (if_has m 4 Wr) (some_right P (if_has m 1 Rr) (if_has m 2 Rw) (one P m 2 Rw h p)))
in_mask P m Wr h p = some_left P (first_three m) (if_has m 8 Ww) (some_right P (first_two m) (if_has m 4 Wr) (one P m 4 Wr h p))
in_mask P m Ww h p = some_right P (first_three m) (if_has m 8 Ww) (one P m 8 Ww h p)

-- the mask that an order takes has the bit
mask_is : (m n b : ℕ) → has n b ≡ true → (m == n) ≡ true → has m b ≡ true
mask_is m n b h t = let e : m ≡ n = grind (arith, nat_tests) in subst⁻¹ (λ (v : ℕ). has v b ≡ true) e h

-- each barrier that an order takes has a fence with P
module _ (takes : Shape → Bool) (ahead : Shape → List Row) (P : Row → Type 0) (bar : (m : ℕ) → takes (Barrier m) ≡ true → Some P (ahead (Barrier m))) where
  pub across : (between : List Shape) → AllByRecursion (λ e. takes e ≡ true) between → AcrossBarrier between → Some (λ e. Some P (ahead e)) between
  across [] tb s = absurd s
  across (AccessOf a ∷ es) tb (inl s) = absurd s
  across (AccessOf a ∷ es) tb (inr s) = inr (across es tb.1 s)
  across (Barrier m ∷ es) tb (inl s) = inl (bar m tb.0)
  across (Barrier m ∷ es) tb (inr s) = inr (across es tb.1 s)

-- where each barrier that an order takes has the bit of two accesses, one between them has a fence that fits
at_barrier : (takes : Shape → Bool) (ahead behind : Shape → List Row) → ((m : ℕ) → ahead (Barrier m) ≡ by_mask m) →
    (x y : Access) → x.address ≤ 1023 → y.address ≤ 1023 → ((m : ℕ) → takes (Barrier m) ≡ true → has m (bit_of (kind_of x.op y.op)) ≡ true) →
    (between : List Shape) → AllByRecursion (λ e. takes e ≡ true) between → AcrossBarrier between → Some (Fits x y) (standing ahead behind x between y)
at_barrier takes ahead behind of_mask x y hx hy bit between tb s =
    at_some ahead behind x y between
    (across takes ahead (Fits x y) (λ m t. subst⁻¹ (λ (rs : List Row). Some (Fits x y) rs) (of_mask m)
    (in_mask (Fits x y) m (kind_of x.op y.op) (bit m t) (fits-star_star x y hx hy))) between tb s)

abbrev as_op : Op → Access → Access
as_op p x = record { op = p; mark = x.mark; address = x.address }

-- the fences of sc before a second access
sc_second : (x y : Access) → x.address ≤ 1023 → y.address ≤ 1023 → (p q : Op) → Some (Fits (as_op p x) (as_op q y)) (sc_access q y.address)
sc_second x y hx hy Load Load = inl (fits-star_to _ _ hx hy)
sc_second x y hx hy Store Load = inr (inl (fits-star_to _ _ hx hy))
sc_second x y hx hy Load Store = inl (fits-star_to _ _ hx hy)
sc_second x y hx hy Store Store = inr (inl (fits-star_to _ _ hx hy))

pub sc_fenced : Fenced sc_takes sc_before no_fences ScKeeps
sc_fenced x between y hx hy tx tb ty k = at_second sc_before no_fences x y between (sc_second x y hx hy x.op y.op)

-- tso
module _ (x y : Access) (between : List Shape) (hx : x.address ≤ 1023) (hy : y.address ≤ 1023) where
  tso_by : AllByRecursion (λ e. tso_takes e ≡ true) between → (p q : Op) → TsoKinds (kind_of p q) between → Some (Fits (as_op p x) (as_op q y)) (standing tso_before no_fences (as_op p x) between (as_op q y))
  tso_by tb Load Load k = at_second tso_before no_fences (as_op Load x) (as_op Load y) between (inl (fits-star_to _ _ hx hy))
  tso_by tb Load Store k = at_second tso_before no_fences (as_op Load x) (as_op Store y) between (inl (fits-star_to _ _ hx hy))
  tso_by tb Store Store k = at_second tso_before no_fences (as_op Store x) (as_op Store y) between (inr (inl (fits-star_to _ _ hx hy)))
  tso_by tb Store Load k = at_barrier tso_takes tso_before no_fences (λ m. refl) (as_op Store x) (as_op Load y) hx hy (λ m. mask_is m 4 4 refl) between tb k

pub tso_fenced : Fenced tso_takes tso_before no_fences TsoKeeps
tso_fenced x between y hx hy tx tb ty k = tso_by x y between hx hy tb x.op y.op k

-- pso
module _ (x y : Access) (between : List Shape) (hx : x.address ≤ 1023) (hy : y.address ≤ 1023) where
  pso_by : AllByRecursion (λ e. pso_takes e ≡ true) between → (p q : Op) → PsoKinds (kind_of p q) between → Some (Fits (as_op p x) (as_op q y)) (standing pso_before no_fences (as_op p x) between (as_op q y))
  pso_by tb Load Load k = at_second pso_before no_fences (as_op Load x) (as_op Load y) between (inl (fits-star_to _ _ hx hy))
  pso_by tb Load Store k = at_second pso_before no_fences (as_op Load x) (as_op Store y) between (inl (fits-star_to _ _ hx hy))
  pso_by tb Store Store k = at_barrier pso_takes pso_before no_fences (λ m. refl) (as_op Store x) (as_op Store y) hx hy (λ m. mask_is m 12 8 refl) between tb k
  pso_by tb Store Load k = at_barrier pso_takes pso_before no_fences (λ m. refl) (as_op Store x) (as_op Load y) hx hy (λ m. mask_is m 12 4 refl) between tb k

pub pso_fenced : Fenced pso_takes pso_before no_fences PsoKeeps
pso_fenced x between y hx hy tx tb ty k = pso_by x y between hx hy tb x.op y.op k

-- rmo
module _ (x y : Access) (hx : x.address ≤ 1023) (hy : y.address ≤ 1023) where
  barred : (between : List Shape) → Some (Bars (kind_of x.op y.op)) between → Some (λ e. Some (Fits x y) (rmo_before e)) between
  barred [] s = absurd s
  barred (AccessOf a ∷ es) (inl s) = absurd s
  barred (AccessOf a ∷ es) (inr s) = inr (barred es s)
  barred (Barrier m ∷ es) (inl h) = inl (in_mask (Fits x y) m (kind_of x.op y.op) h (fits-star_star x y hx hy))
  barred (Barrier m ∷ es) (inr s) = inr (barred es s)

pub rmo_fenced : Fenced rmo_takes rmo_before no_fences RmoKeeps
rmo_fenced x between y hx hy tx tb ty k = at_some rmo_before no_fences x y between (barred x y hx hy between k)

-- 370
module _ (x y : Access) (between : List Shape) (hx : x.address ≤ 1023) (hy : y.address ≤ 1023) where
  ibm_by : AllByRecursion (λ e. ibm_takes e ≡ true) between → (p q : Op) → TsoKinds (kind_of p q) between → Some (Fits (as_op p x) (as_op q y)) (standing ibm_before no_fences (as_op p x) between (as_op q y))
  ibm_by tb Load Load k = at_second ibm_before no_fences (as_op Load x) (as_op Load y) between (inr (inl (fits-star_to _ _ hx hy)))
  ibm_by tb Load Store k = at_second ibm_before no_fences (as_op Load x) (as_op Store y) between (inl (fits-star_to _ _ hx hy))
  ibm_by tb Store Store k = at_second ibm_before no_fences (as_op Store x) (as_op Store y) between (inr (inl (fits-star_to _ _ hx hy)))
  ibm_by tb Store Load k = at_barrier ibm_takes ibm_before no_fences (λ m. refl) (as_op Store x) (as_op Load y) hx hy (λ m. mask_is m 4 4 refl) between tb k

  ibm_own : x.address ≡ y.address → (p q : Op) → kind_of p q ≡ Wr → Some (Fits (as_op p x) (as_op q y)) (ibm_access q y.address)
  ibm_own e Load Load k = cc
  ibm_own e Load Store k = cc
  ibm_own e Store Store k = cc
  ibm_own e Store Load k = inl (fits-at_at (as_op Store x) (as_op Load y) hx hy e)

pub ibm_fenced : Fenced ibm_takes ibm_before no_fences IbmKeeps
ibm_fenced x between y hx hy tx tb ty (inl k) = ibm_by x y between hx hy tb x.op y.op k
ibm_fenced x between y hx hy tx tb ty (inr k) = at_second ibm_before no_fences x y between (ibm_own x y between hx hy k.1 x.op y.op k.0)

-- ia64
module _ (x y : Access) (hx : x.address ≤ 1023) (hy : y.address ≤ 1023) where
  ia_first : (p q : Op) → Some (Fits (as_op p x) (as_op q y)) (ia_acquired p x.address)
  ia_first Load Load = inl (fits-from_star (as_op Load x) (as_op Load y) hx hy)
  ia_first Load Store = inr (inl (fits-from_star (as_op Load x) (as_op Store y) hx hy))
  ia_first Store Load = inl (fits-from_star (as_op Store x) (as_op Load y) hx hy)
  ia_first Store Store = inr (inl (fits-from_star (as_op Store x) (as_op Store y) hx hy))

has_15 : (k : FenceKind) → has 15 (bit_of k) ≡ true
has_15 Rr = refl
has_15 Rw = refl
has_15 Wr = refl
has_15 Ww = refl

pub ia_fenced : Fenced ia_takes ia_before ia_after IaKeeps
ia_fenced x between y hx hy tx tb ty (inl e) =
    at_first ia_before ia_after x y between
    (subst⁻¹ (λ (v : Mark). Some (Fits x y) (ia_acquire v x.op x.address)) e (ia_first x y hx hy x.op y.op))
ia_fenced x between y hx hy tx tb ty (inr (inl e)) =
    at_second ia_before ia_after x y between
    (subst⁻¹ (λ (v : Mark). Some (Fits x y) (ia_release v y.op y.address)) e (sc_second x y hx hy x.op y.op))
ia_fenced x between y hx hy tx tb ty (inr (inr s)) = at_barrier ia_takes ia_before ia_after (λ m. refl) x y hx hy (λ m. mask_is m 15 (bit_of (kind_of x.op y.op)) (has_15 (kind_of x.op y.op))) between tb s

-- each of the six
pub any_fenced : (o : AnyOrder) → Fenced (any_takes o) (any_before o) (any_after o) (AnyKeeps o)
any_fenced Sc = sc_fenced
any_fenced Tso = tso_fenced
any_fenced Pso = pso_fenced
any_fenced Rmo = rmo_fenced
any_fenced Ibm370 = ibm_fenced
any_fenced Ia64 = ia_fenced
