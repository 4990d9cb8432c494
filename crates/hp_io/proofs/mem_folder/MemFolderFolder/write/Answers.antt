use Rattle.std.proofs.Common.{◌≡◌, ap, refl}
use Rattle.hp_io.proofs.mem_folder.MemFolderFolder.write.Goals as goal

pub returns-then-next_fails-clause-failed : goal.returns-then-next_fails-clause-failed
returns-then-next_fails-clause-failed c =
    let fails : c.self.inside.schedule.fails.items ≡ c.args.self.now.fails = ap (λ s. s.fails) c.self.view_is in
    let calls : c.self.inside.schedule.calls ≡ c.args.self.now.calls = ap (λ s. s.calls) c.self.view_is in
    (λ _. rw (← fails, ← calls) (c.next_fails.ensures.due.0 c.if-next_fails.true), λ _. refl)
