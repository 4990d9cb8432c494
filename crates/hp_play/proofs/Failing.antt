-- What is known of a call that may fail.
use Rattle.std.proofs.Common.{Result, Ok, Err, OnOk}

pub held : {A E P : Type 0} (r : Result A E) → P → OnOk r P
held (Ok a) p = p
held (Err e) p = tt

pub further : {A E P Q : Type 0} (r : Result A E) → (P → Q) → OnOk r P → OnOk r Q
further (Ok a) f p = f p
further (Err e) f p = tt
