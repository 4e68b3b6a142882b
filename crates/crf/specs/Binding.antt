-- Which earlier instruction binds which later one.
use Rattle.std.specs.Prelude.{Bool, true, false, ◌&&◌, ◌==◌}
use Rattle.crf.specs.Spans.{within}
use Rattle.crf.specs.declared.instruction.FenceKind.{FenceKind}
use Rattle.crf.specs.declared.instruction.FenceKind.TheVariants.{Rr, Rw, Wr, Ww}
use Rattle.crf.specs.declared.instruction.Instruction.{Instruction}
use Rattle.crf.specs.declared.instruction.Instruction.TheVariants.{Loadl, Storel, Commit, Reconcile, Fence}

-- the first letter of a fence's kind is r: it holds back what follows until the loads before it are done
abbrev pub first_r : FenceKind → Bool
first_r Rr = true
first_r Rw = true
first_r Wr = false
first_r Ww = false

abbrev pub first_w : FenceKind → Bool
first_w Rr = false
first_w Rw = false
first_w Wr = true
first_w Ww = true

abbrev pub second_r : FenceKind → Bool
second_r Rr = true
second_r Rw = false
second_r Wr = true
second_r Ww = false

abbrev pub second_w : FenceKind → Bool
second_w Rr = false
second_w Rw = true
second_w Wr = false
second_w Ww = true

-- the table, a row for each earlier instruction and a column for each later one
abbrev pub binding : {W : Type 0} → Instruction W → Instruction W → Bool
binding (Loadl a) (Loadl b) = false
binding (Loadl a) (Storel b w) = a == b
binding (Loadl a) (Fence k f s) = first_r k && within f.low f.high a
binding (Loadl a) (Commit b) = false
binding (Loadl a) (Reconcile b) = false
binding (Storel a v) (Loadl b) = a == b
binding (Storel a v) (Storel b w) = a == b
binding (Storel a v) (Fence k f s) = false
binding (Storel a v) (Commit b) = a == b
binding (Storel a v) (Reconcile b) = false
binding (Fence k f s) (Loadl b) = false
binding (Fence k f s) (Storel b w) = second_w k && within s.low s.high b
binding (Fence k f s) (Fence k' f' s') = false
binding (Fence k f s) (Commit b) = false
binding (Fence k f s) (Reconcile b) = second_r k && within s.low s.high b
binding (Commit a) (Loadl b) = false
binding (Commit a) (Storel b w) = false
binding (Commit a) (Fence k f s) = first_w k && within f.low f.high a
binding (Commit a) (Commit b) = false
binding (Commit a) (Reconcile b) = false
binding (Reconcile a) (Loadl b) = a == b
binding (Reconcile a) (Storel b w) = false
binding (Reconcile a) (Fence k f s) = false
binding (Reconcile a) (Commit b) = false
binding (Reconcile a) (Reconcile b) = false
