use Rattle.std.proofs.Common.{◌≡◌, ℕ, ◌+◌, ◌<◌, List, [], ◌∷◌, length, drop, slice_get, Some, None, Option, sym, ap, ◌∙◌, arith}
use Rattle.std.specs.Prelude.{MatchOption}
use Rattle.std.proofs.lemmas.List.{drop_more}
use Rattle.std.proofs.lemmas.Option.{get_or_from_slice_get, slice_get_cases}
use Rattle.orders.specs.Translation.{instructions}
use Rattle.orders.proofs.translation.InstructionsIterator.next.Goals as goal

-- what is left at a place is the element there, and what is left behind it
first_left : {X : Type 0} (xs : List X) (k : ℕ) (r : Option X) → r ≡ slice_get xs k → k < length xs → MatchOption r ((drop k xs ≡ []) × (drop (k + 1) xs ≡ [])) (λ x. drop k xs ≡ x ∷ drop (k + 1) xs)
first_left xs k None e h = grind (arith, slice_get_cases xs k)
first_left xs k (Some x) e h = drop_more xs k x h ∙ ap (λ y. y ∷ drop (k + 1) xs) (get_or_from_slice_get xs k x x (sym e))

pub returns-clause-steps : goal.returns-clause-steps
returns-clause-steps g c = first_left (instructions c.args.self.now.translation.now) c.args.self.now.at c.get.result c.get.ensures (omega (arith, c.if-at-count.false, c.count.ensures.count))
