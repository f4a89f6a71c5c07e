use Rattle.graph_content.proofs.RowTests.{of_items, of_scan, is_items_row, is_scan_row}
use Rattle.graph_content.proofs.touching.is_touched.Goals as goal

pub touches_items-requires : goal.touches_items-requires
touches_items-requires c = is_items_row c.args.row.now c.in-Items.ensures c.requires

pub returns-in-Items : goal.returns-in-Items
returns-in-Items c = λ g. of_items g c.args.touch.now c.args.row.now c.touches_items.result c.in-Items.ensures c.touches_items.ensures

pub touches_scan-requires : goal.touches_scan-requires
touches_scan-requires c = is_scan_row c.args.row.now c.in-Scan.ensures c.requires

pub returns-in-Scan : goal.returns-in-Scan
returns-in-Scan c = λ g. of_scan g c.args.touch.now c.args.row.now c.touches_scan.result c.in-Scan.ensures c.touches_scan.ensures
