use Rattle.version_store.specs.Means.{editor_of}
use Rattle.version_store_soak.proofs.Staying.{given_up}
use Rattle.version_store_soak.proofs.editing.make_next.Goals as goal

pub returns-in-Ok : goal.returns-in-Ok
returns-in-Ok c = given_up c.give_up.result (editor_of c.args.editor.now) (editor_of c.make-made.new.editor) (editor_of c.give_up.new.self)
    c.make-made.ensures c.give_up.ensures.given

pub returns-in-Err : goal.returns-in-Err
returns-in-Err c = given_up c.give_up.result (editor_of c.args.editor.now) (editor_of c.make-made.new.editor) (editor_of c.give_up.new.self)
    c.make-made.ensures c.give_up.ensures.given
