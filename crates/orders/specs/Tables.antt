-- The table of the memory orders.
use Rattle.std.specs.Prelude.{◌≡◌, ℕ, Bool, true, false, ◌&&◌, ◌⊎◌, List, [], ◌∷◌, ◌==◌, nat_le}
use Rattle.orders.specs.Lists.{Some}
use Rattle.crf.specs.Fences.{Row, star_to, from_star, at_at}
use Rattle.orders.specs.Fences.{by_mask, has}
use Rattle.orders.specs.Order.{kind_of}
use Rattle.crf.specs.declared.instruction.FenceKind.{FenceKind}
use Rattle.crf.specs.declared.instruction.FenceKind.TheVariants.{Rr, Rw, Wr, Ww}
use Rattle.orders.specs.declared.entries.Op.{Op}
use Rattle.orders.specs.declared.entries.Op.TheVariants.{Load, Store}
use Rattle.orders.specs.declared.entries.Mark.{Mark}
use Rattle.orders.specs.declared.entries.Mark.TheVariants.{Plain, Acquire, Release}
use Rattle.orders.specs.declared.entries.Access.{Access}
use Rattle.orders.specs.declared.entries.Shape.{Shape}
use Rattle.orders.specs.declared.entries.Shape.TheVariants.{Access as AccessOf, Barrier}

abbrev pub plain : Mark → Bool
plain Plain = true
plain Acquire = false
plain Release = false

abbrev pub no_fences : Shape → List Row
no_fences e = []

-- sc
abbrev pub sc_takes : Shape → Bool
sc_takes (AccessOf x) = plain x.mark
sc_takes (Barrier m) = false

abbrev pub sc_access : Op → ℕ → List Row
sc_access Load a = star_to Rr a ∷ star_to Wr a ∷ []
sc_access Store a = star_to Rw a ∷ star_to Ww a ∷ []

abbrev pub sc_before : Shape → List Row
sc_before (AccessOf x) = sc_access x.op x.address
sc_before (Barrier m) = by_mask m

-- all pairs
abbrev pub ScKeeps : Access → List Shape → Access → Type 0
ScKeeps x between y = Unit {0}

-- a barrier
abbrev pub IsBarrier : Shape → Type 0
IsBarrier (AccessOf x) = ⊥
IsBarrier (Barrier m) = Unit {0}

-- some entry between is a barrier
abbrev pub AcrossBarrier : List Shape → Type 0
AcrossBarrier between = Some IsBarrier between

-- tso
abbrev pub tso_takes : Shape → Bool
tso_takes (AccessOf x) = plain x.mark
tso_takes (Barrier m) = m == 4

abbrev pub tso_access : Op → ℕ → List Row
tso_access Load a = star_to Rr a ∷ []
tso_access Store a = star_to Rw a ∷ star_to Ww a ∷ []

abbrev pub tso_before : Shape → List Row
tso_before (AccessOf x) = tso_access x.op x.address
tso_before (Barrier m) = by_mask m

-- RR, RW, WW; WR across a barrier
abbrev pub TsoKinds : FenceKind → List Shape → Type 0
TsoKinds Rr between = Unit {0}
TsoKinds Rw between = Unit {0}
TsoKinds Wr between = AcrossBarrier between
TsoKinds Ww between = Unit {0}

abbrev pub TsoKeeps : Access → List Shape → Access → Type 0
TsoKeeps x between y = TsoKinds (kind_of x.op y.op) between

-- pso
abbrev pub pso_takes : Shape → Bool
pso_takes (AccessOf x) = plain x.mark
pso_takes (Barrier m) = m == 12

abbrev pub pso_access : Op → ℕ → List Row
pso_access Load a = star_to Rr a ∷ []
pso_access Store a = star_to Rw a ∷ []

abbrev pub pso_before : Shape → List Row
pso_before (AccessOf x) = pso_access x.op x.address
pso_before (Barrier m) = by_mask m

-- RR, RW; WR, WW across a barrier
abbrev pub PsoKinds : FenceKind → List Shape → Type 0
PsoKinds Rr between = Unit {0}
PsoKinds Rw between = Unit {0}
PsoKinds Wr between = AcrossBarrier between
PsoKinds Ww between = AcrossBarrier between

abbrev pub PsoKeeps : Access → List Shape → Access → Type 0
PsoKeeps x between y = PsoKinds (kind_of x.op y.op) between

-- rmo
abbrev pub rmo_takes : Shape → Bool
rmo_takes (AccessOf x) = plain x.mark
rmo_takes (Barrier m) = nat_le 1 m && nat_le m 15

abbrev pub rmo_before : Shape → List Row
rmo_before (AccessOf x) = []
rmo_before (Barrier m) = by_mask m

abbrev pub bit_of : FenceKind → ℕ
bit_of Rr = 1
bit_of Rw = 2
bit_of Wr = 4
bit_of Ww = 8

-- a barrier whose mask has the kind
abbrev pub Bars : FenceKind → Shape → Type 0
Bars k (AccessOf x) = ⊥
Bars k (Barrier m) = has m (bit_of k) ≡ true

-- the kinds in the mask of a barrier between
abbrev pub RmoKeeps : Access → List Shape → Access → Type 0
RmoKeeps x between y = Some (Bars (kind_of x.op y.op)) between

-- 370
abbrev pub ibm_takes : Shape → Bool
ibm_takes (AccessOf x) = plain x.mark
ibm_takes (Barrier m) = m == 4

abbrev pub ibm_access : Op → ℕ → List Row
ibm_access Load a = at_at Wr a ∷ star_to Rr a ∷ []
ibm_access Store a = star_to Rw a ∷ star_to Ww a ∷ []

abbrev pub ibm_before : Shape → List Row
ibm_before (AccessOf x) = ibm_access x.op x.address
ibm_before (Barrier m) = by_mask m

-- those of tso; WR on one address
abbrev pub IbmKeeps : Access → List Shape → Access → Type 0
IbmKeeps x between y = TsoKeeps x between y ⊎ ((kind_of x.op y.op ≡ Wr) × (x.address ≡ y.address))

-- ia64
abbrev pub ia_takes : Shape → Bool
ia_takes (AccessOf x) = true
ia_takes (Barrier m) = m == 15

abbrev pub ia_release : Mark → Op → ℕ → List Row
ia_release Plain o a = []
ia_release Acquire o a = []
ia_release Release o a = sc_access o a

abbrev pub ia_acquired : Op → ℕ → List Row
ia_acquired Load a = from_star Rr a ∷ from_star Rw a ∷ []
ia_acquired Store a = from_star Wr a ∷ from_star Ww a ∷ []

abbrev pub ia_acquire : Mark → Op → ℕ → List Row
ia_acquire Plain o a = []
ia_acquire Acquire o a = ia_acquired o a
ia_acquire Release o a = []

abbrev pub ia_before : Shape → List Row
ia_before (AccessOf x) = ia_release x.mark x.op x.address
ia_before (Barrier m) = by_mask m

abbrev pub ia_after : Shape → List Row
ia_after (AccessOf x) = ia_acquire x.mark x.op x.address
ia_after (Barrier m) = []

-- first acquire, or second release, or a barrier between
abbrev pub IaKeeps : Access → List Shape → Access → Type 0
IaKeeps x between y = (x.mark ≡ Acquire) ⊎ ((y.mark ≡ Release) ⊎ AcrossBarrier between)
