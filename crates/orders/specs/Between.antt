-- Where a fitting fence stands between two accesses.
use Rattle.std.specs.Prelude.{◌≡◌, ℕ, ◌≤◌, true, List, [], ◌∷◌, ◌++◌, refl}
use Rattle.std.proofs.Math.Path.{subst⁻¹}
use Rattle.std.proofs.Common.{inl, inr, arith}
use Rattle.std.proofs.lemmas.Bool.Decides.{nat_tests}
use Rattle.crf.specs.Spans.{within, low_of, high_of}
use Rattle.orders.specs.Lists.{Some}
use Rattle.crf.specs.Fences.{Row, star_to, from_star, at_at, star_star}
use Rattle.orders.specs.Order.{Fits, kind_of, of_all, standing}
use Rattle.orders.specs.declared.entries.Access.{Access}
use Rattle.orders.specs.declared.entries.Shape.{Shape}
use Rattle.orders.specs.declared.entries.Shape.TheVariants.{Access as AccessOf}

pub some_left : {X : Type 0} (P : X → Type 0) (xs ys : List X) → Some P xs → Some P (xs ++ ys)
some_left P [] ys s = absurd s
some_left P (x ∷ xs) ys (inl p) = inl p
some_left P (x ∷ xs) ys (inr s) = inr (some_left P xs ys s)

pub some_right : {X : Type 0} (P : X → Type 0) (xs ys : List X) → Some P ys → Some P (xs ++ ys)
some_right P [] ys s = s
some_right P (x ∷ xs) ys s = inr (some_right P xs ys s)

module _ (ahead behind : Shape → List Row) (x y : Access) where
  pub at_first : (between : List Shape) → Some (Fits x y) (behind (AccessOf x)) → Some (Fits x y) (standing ahead behind x between y)
  at_first between s = some_left (Fits x y) (behind (AccessOf x)) (of_all ahead behind between ++ ahead (AccessOf y)) s

  pub at_second : (between : List Shape) → Some (Fits x y) (ahead (AccessOf y)) → Some (Fits x y) (standing ahead behind x between y)
  at_second between s =
      some_right (Fits x y) (behind (AccessOf x)) (of_all ahead behind between ++ ahead (AccessOf y))
      (some_right (Fits x y) (of_all ahead behind between) (ahead (AccessOf y)) s)

  inside : (between : List Shape) → Some (λ e. Some (Fits x y) (ahead e)) between → Some (Fits x y) (of_all ahead behind between)
  inside [] s = absurd s
  inside (e ∷ es) (inl s) = some_left (Fits x y) (ahead e) (behind e ++ of_all ahead behind es) s
  inside (e ∷ es) (inr s) =
      some_right (Fits x y) (ahead e) (behind e ++ of_all ahead behind es)
      (some_right (Fits x y) (behind e) (of_all ahead behind es) (inside es s))

  pub at_some : (between : List Shape) → Some (λ e. Some (Fits x y) (ahead e)) between → Some (Fits x y) (standing ahead behind x between y)
  at_some between s =
      some_right (Fits x y) (behind (AccessOf x)) (of_all ahead behind between ++ ahead (AccessOf y))
      (some_left (Fits x y) (of_all ahead behind between) (ahead (AccessOf y)) (inside between s))

-- the whole span, and the span of one address
in_all : (a : ℕ) → a ≤ 1023 → within 0 1023 a ≡ true
in_all a h = grind (arith, nat_tests)

in_own : (a : ℕ) → a ≤ 1023 → within (low_of a a) (high_of a a) a ≡ true
in_own a h = grind (arith, nat_tests)

module _ (x y : Access) (hx : x.address ≤ 1023) (hy : y.address ≤ 1023) where
  pub fits-star_to : Fits x y (star_to (kind_of x.op y.op) y.address)
  fits-star_to = record { names = refl; first = in_all x.address hx; second = in_own y.address hy }

  pub fits-from_star : Fits x y (from_star (kind_of x.op y.op) x.address)
  fits-from_star = record { names = refl; first = in_own x.address hx; second = in_all y.address hy }

  pub fits-star_star : Fits x y (star_star (kind_of x.op y.op))
  fits-star_star = record { names = refl; first = in_all x.address hx; second = in_all y.address hy }

  pub fits-at_at : x.address ≡ y.address → Fits x y (at_at (kind_of x.op y.op) y.address)
  fits-at_at e = record { names = refl; first = subst⁻¹ (λ (a : ℕ). within (low_of y.address y.address) (high_of y.address y.address) a ≡ true) e (in_own y.address hy); second = in_own y.address hy }
