use Rattle.std.proofs.Common.{◌≡◌, ◌+◌, [], ◌∷◌, ◌++◌, map, length, get_or, take, sym, ap, ◌∙◌, add-zero, arith}
use Rattle.std.proofs.lemmas.Grind.{flat_map-append}
use Rattle.std.proofs.lemmas.List.{take_all}
use Rattle.std.specs.List.{flat_map}
use Rattle.files.specs.DayWriting.{header_end, run_places}
use Rattle.files.specs.Encoding.{number_bytes}
use Rattle.files.specs.Writing.{written_at}
use Rattle.files.proofs.Days.{no_run, runs_length, run_here, next_run, places_next, front_width}
use Rattle.files.proofs.Putting.{number_widths, put_behind, written_none}
use Rattle.files.proofs.day_write.put_places.Goals as goal

pub loop-run-init : goal.loop-run-init
unfolding run_places
loop-run-init c =
    let l = runs_length c.args.runs.now in
    (sym (add-zero c.args.at), omega arith, written_none c.args.out.now c.args.at)

pub overflow_cast-start : goal.overflow_cast-start
overflow_cast-start c = let r = next_run c.args.runs.now c.loop-run.run-index (omega arith) in omega arith

pub overflow_cast-run : goal.overflow_cast-run
overflow_cast-run c = let r = next_run c.args.runs.now c.loop-run.run-index (omega arith) in omega arith

pub put_all-next-requires : goal.put_all-next-requires
put_all-next-requires c =
    let w = number_widths (c.loop-run.start ∷ (length (get_or c.args.runs.now c.loop-run.run-index no_run).now ∷ [])) in
    omega arith

pub overflow_add-start-in-loop-run : goal.overflow_add-start-in-loop-run
overflow_add-start-in-loop-run c = let r = next_run c.args.runs.now c.loop-run.run-index (omega arith) in omega arith

pub loop-run-preserved : goal.loop-run-preserved
loop-run-preserved c =
    let xs = c.args.runs.now in
    let rs = map (λ x. x.now) xs in
    let n = c.loop-run.run-index in
    let run = (get_or xs n no_run).now in
    let l = runs_length xs in
    let r = next_run xs n (omega arith) in
    let before = run_places (header_end rs) (take n rs) in
    let place = c.loop-run.start ∷ (length run ∷ []) in
    let w = number_widths place in
    let v = front_width (header_end rs) rs n (omega arith) in
    let here : before ++ place ≡ run_places (header_end rs) (take (n + 1) rs) =
    ap (λ s. before ++ (s ∷ (length run ∷ []))) c.loop-run.invariant.1 ∙ sym (places_next (header_end rs) rs n run (omega arith) (run_here xs n (omega arith))) in
    let put = put_behind c.args.out.now (flat_map number_bytes before) (flat_map number_bytes place) c.loop-run.out c.put_all-next.new.out c.args.at c.loop-run.next
    (omega arith) c.loop-run.invariant.2 (omega arith) c.put_all-next.ensures.put in
    (omega arith, omega arith, put ∙ ap (λ t. written_at c.args.out.now c.args.at t) (sym (flat_map-append number_bytes before place) ∙ ap (flat_map number_bytes) here))

pub returns : goal.returns
returns c =
    let rs = map (λ x. x.now) c.args.runs.now in
    let l = runs_length c.args.runs.now in
    let t = ap (λ ys. flat_map number_bytes (run_places (header_end rs) ys)) (take_all c.loop-run.run-index rs (omega arith)) in
    record { end = omega arith; put = c.loop-run.invariant.2 ∙ ap (λ xs. written_at c.args.out.now c.args.at xs) t }
