-- What every memory order owes.
use Rattle.std.specs.Prelude.{◌≡◌, ℕ, ◌≤◌, Bool, true, List, [], ◌∷◌, ◌++◌, length}
use Rattle.crf.specs.Spans.{within}
use Rattle.std.specs.List.{AllByRecursion}
use Rattle.orders.specs.Lists.{Some}
use Rattle.crf.specs.Fences.{Row}
use Rattle.crf.specs.declared.instruction.FenceKind.{FenceKind}
use Rattle.crf.specs.declared.instruction.FenceKind.TheVariants.{Rr, Rw, Wr, Ww}
use Rattle.orders.specs.declared.entries.Op.{Op}
use Rattle.orders.specs.declared.entries.Op.TheVariants.{Load, Store}
use Rattle.orders.specs.declared.entries.Access.{Access}
use Rattle.orders.specs.declared.entries.Shape.{Shape}
use Rattle.orders.specs.declared.entries.Shape.TheVariants.{Access as AccessOf, Barrier}

-- the kind of fence that names two accesses: r a load, w a store
abbrev pub kind_of : Op → Op → FenceKind
kind_of Load Load = Rr
kind_of Load Store = Rw
kind_of Store Load = Wr
kind_of Store Store = Ww

-- a fence fits two accesses if its kind names them and its spans hold their addresses
pub record Fits (x y : Access) (f : Row) : Type 0 where
  pub names : f.kind ≡ kind_of x.op y.op
  pub first : within f.first_low f.first_high x.address ≡ true
  pub second : within f.second_low f.second_high y.address ≡ true

-- the fences that stand between two accesses of a translated program: those after the first, those of the entries between, those before the second
abbrev pub of_all : (Shape → List Row) → (Shape → List Row) → List Shape → List Row
of_all ahead behind [] = []
of_all ahead behind (e ∷ es) = ahead e ++ (behind e ++ of_all ahead behind es)

abbrev pub standing : (Shape → List Row) → (Shape → List Row) → Access → List Shape → Access → List Row
standing ahead behind x between y = behind (AccessOf x) ++ (of_all ahead behind between ++ ahead (AccessOf y))

-- an order's law: at each pair that it keeps, in a program of entries that it takes, a fitting fence stands between the two
abbrev pub Fenced : (Shape → Bool) → (Shape → List Row) → (Shape → List Row) → (Access → List Shape → Access → Type 0) → Type 0
Fenced takes ahead behind keeps =
    (x : Access) (between : List Shape) (y : Access) →
    x.address ≤ 1023 → y.address ≤ 1023 →
    takes (AccessOf x) ≡ true → AllByRecursion (λ e. takes e ≡ true) between → takes (AccessOf y) ≡ true →
    keeps x between y → Some (Fits x y) (standing ahead behind x between y)

-- how many fences an entry may have
abbrev pub most : Shape → ℕ
most (AccessOf x) = 2
most (Barrier m) = 4

abbrev pub Few : (Shape → List Row) → (Shape → List Row) → Type 0
Few ahead behind = (e : Shape) → length (ahead e ++ behind e) ≤ most e

-- two descriptions of a memory order say the same: what it takes, its fences before and after, and which pairs it keeps
pub record Means (takes : Shape → Bool) (ahead behind : Shape → List Row) (keeps : Access → List Shape → Access → Type 0)
    (takes' : Shape → Bool) (ahead' behind' : Shape → List Row) (keeps' : Access → List Shape → Access → Type 0) : Type 0 where
  pub takes_is : (e : Shape) → takes e ≡ takes' e
  pub ahead_is : (e : Shape) → ahead e ≡ ahead' e
  pub behind_is : (e : Shape) → behind e ≡ behind' e
  pub keeps_those : (x : Access) (between : List Shape) (y : Access) → keeps x between y → keeps' x between y
  pub keeps_all : (x : Access) (between : List Shape) (y : Access) → keeps' x between y → keeps x between y
