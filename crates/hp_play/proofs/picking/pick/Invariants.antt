use Rattle.std.proofs.Common.{◌≡◌, ◌≢◌, ◌≤◌, ◌<◌, ℕ, IsTrue, length}
use Rattle.hp_diagram.specs.Diagrams.{Has, function, level, valuation, zero_ref}
use Rattle.hp_synth.specs.Valued.{Valued}
use Rattle.hp_play.proofs.picking.pick.Given as goal

abbrev pub invariant-loop-y : goal.invariant-loop-y
invariant-loop-y l =
    record {
      has : Has l.t l.at;
      later : l.y ≤ level l.t l.at;
      len : length l.values ≡ l.t.vars;
      path : (v : Valued) → ((k : ℕ) → k < l.y → v k ≡ valuation l.values k) → function l.t l.fn.r v ≡ function l.t l.at v;
      some : (v : Valued) → IsTrue (function l.t l.fn.r v) → l.at ≢ zero_ref;
    }
