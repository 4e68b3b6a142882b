use Rattle.std.proofs.Common.{length, take, sym, ap, ◌∙◌, arith, length-append}
use Rattle.std.proofs.lemmas.List.Folds.{length-flat_map-take}
use Rattle.std.specs.List.{flat_map}
use Rattle.files.specs.Writing.{written_at}
use Rattle.files.proofs.Putting.{put_behind, joined_next}
use Rattle.files.proofs.put.put_all.Goals as goal

pub put-next-requires : goal.put-next-requires
put-next-requires g c =
    let r = length-flat_map-take g.R.Written.encoded c.args.rows.now c.loop-row.row-index c.row-item.result (omega arith) in
    let e = ap (λ x. length (g.R.Written.encoded x)) c.row-item.is in
    omega arith

pub loop-row-preserved : goal.loop-row-preserved
loop-row-preserved g c =
    let f = g.R.Written.encoded in
    let before = flat_map f (take c.loop-row.row-index c.args.rows.now) in
    let r = length-flat_map-take f c.args.rows.now c.loop-row.row-index c.row-item.result (omega arith) in
    let e = ap (λ x. length (f x)) c.row-item.is in
    let j = joined_next f c.args.rows.now c.loop-row.row-index c.row-item.result (omega arith) c.row-item.is in
    let l = ap length j ∙ length-append before (f c.row-item.result) in
    let p = put_behind c.args.out.now before (f c.row-item.result) c.loop-row.out c.put-next.new.out c.args.at c.loop-row.next (omega arith) c.loop-row.invariant.1 c.loop-row.invariant.0 c.put-next.ensures.put in
    (omega arith, p ∙ ap (λ xs. written_at c.args.out.now c.args.at xs) (sym j))
