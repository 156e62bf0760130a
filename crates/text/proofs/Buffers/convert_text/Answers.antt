-- `text::Buffers::convert_text` meets its contract: by what the reader answers.
use Rattle.text.specs.Convert.{Converts}
use Rattle.text.specs.Format.{list_file, partner_file}
use Rattle.text.proofs.Lists.{outputs_as}
use Rattle.text.proofs.Texts.{found, read_rows, read_partner, rows_there, columns_there, converts_rows, converts_columns}
use Rattle.text.proofs.Buffers.convert_text.Goals as goal

pub convert_columns-requires : goal.convert_columns-requires
convert_columns-requires c = columns_there _ _ _ _ c.read.ensures (found c.ok_or.ensures.ok_part c.in_ok-contents.was c.in-Tableau.is) c.read.auto.out

pub convert_list-requires : goal.convert_list-requires
convert_list-requires c =
    let read = read_rows _ _ _ _ c.read.ensures (found c.ok_or.ensures.ok_part c.in_ok-contents.was c.in-Rows.is) in
    rows_there list_file _ _ _ read c.read.auto.out

pub convert_partner-requires : goal.convert_partner-requires
convert_partner-requires c =
    let read = read_partner _ _ _ _ c.read.ensures (found c.ok_or.ensures.ok_part c.in_ok-contents.was c.in-PartnerRows.is) in
    rows_there partner_file _ _ _ read c.read.auto.out

pub returns-in-Tableau : goal.returns-in-Tableau
returns-in-Tableau c = outputs_as {Q = Converts _} (λ o p. converts_columns _ _ _ _ c.read.ensures (found c.ok_or.ensures.ok_part c.in_ok-contents.was c.in-Tableau.is) o p) c.convert_columns.ensures

pub returns-in-Rows : goal.returns-in-Rows
returns-in-Rows c =
    let read = read_rows _ _ _ _ c.read.ensures (found c.ok_or.ensures.ok_part c.in_ok-contents.was c.in-Rows.is) in
    outputs_as {Q = Converts _} (λ o p. converts_rows list_file _ _ _ read o p) c.convert_list.ensures

pub returns-in-PartnerRows : goal.returns-in-PartnerRows
returns-in-PartnerRows c =
    let read = read_partner _ _ _ _ c.read.ensures (found c.ok_or.ensures.ok_part c.in_ok-contents.was c.in-PartnerRows.is) in
    outputs_as {Q = Converts _} (λ o p. converts_rows partner_file _ _ _ read o p) c.convert_partner.ensures
