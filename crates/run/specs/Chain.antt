-- Chains of tests, the first failing one of which gives the refusal.
use Rattle.std.specs.Prelude.{Bool, true, false, Ok, Err, Result}

-- go on with the answer, or refuse as before
abbrev pub and_then : {X Y E : Type 0} → Result X E → (X → Result Y E) → Result Y E
and_then (Ok x) f = f x
and_then (Err e) f = Err e

-- the answer if the test holds, else the refusal
abbrev pub need : {X E : Type 0} → Bool → X → E → Result X E
need true x e = Ok x
need false x e = Err e

abbrev pub pass : {E : Type 0} → Bool → E → Result (Unit {0}) E
pass b e = need b (tt {0}) e
