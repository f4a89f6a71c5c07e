use Rattle.graph_content.proofs.Choices.{row_fits, exact, fits_next, same_leads, same_keeps}
use Rattle.graph_content.proofs.choosing.ModifyChooserGraphRows.keep.Goals as goal

pub keep-requires : goal.keep-requires
keep-requires c = row_fits c.args.self.now c.args.row.now c.requires.0 c.requires.1 c.requires.2

pub returns-clause-exact : goal.returns-clause-exact
returns-clause-exact c =
    exact c.args.self.now c.args.row.now c.requires.0 c.requires.1 c.keep.result c.requires.2 c.keep.ensures.kept

pub returns-clause-fits : goal.returns-clause-fits
returns-clause-fits c =
    fits_next c.args.self.now c.args.row.now c.keep.result c.keep.ensures.fits

pub returns-clause-same_leads : goal.returns-clause-same_leads
returns-clause-same_leads c =
    same_leads c.args.self.now c.keep.new.self c.args.row.now c.keep.result
    (row_fits c.args.self.now c.args.row.now c.requires.0 c.requires.1 c.requires.2) c.keep.ensures.counted

pub returns-clause-same_keeps : goal.returns-clause-same_keeps
returns-clause-same_keeps c =
    same_keeps c.args.self.now c.keep.new.self c.args.row.now c.keep.result
    (row_fits c.args.self.now c.args.row.now c.requires.0 c.requires.1 c.requires.2) c.keep.ensures.counted

pub returns-clause-moves : goal.returns-clause-moves
returns-clause-moves c = record {
  fits = row_fits c.args.self.now c.args.row.now c.requires.0 c.requires.1 c.requires.2;
  kept = c.keep.result;
  exact = exact c.args.self.now c.args.row.now c.requires.0 c.requires.1 c.keep.result c.requires.2 c.keep.ensures.kept;
  counted = c.keep.ensures.counted;
}
