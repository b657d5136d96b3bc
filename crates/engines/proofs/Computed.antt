-- The rules of the table with every definition on their way open: a proof that unfolds `computed` computes answers and tables.
use Rattle.station.specs.Stations.{count_ok, is_station, stations_ok, index_of, is_asking}
use Rattle.rows.specs.Rows.{goes_first, answers_now, onward, larger, raised, ask_rule, send_rule, enter_rule, leave_rule, give_rule, take_request_rule, take_answer_rule, step_rule, outcome}
use Rattle.form.specs.Form.{next_ok, due_ok, own_ok, head_ok, new_head, empty_cells, in_use, cell_ok, cells_ok, record_ok}
use Rattle.table.specs.Table.{records_ok, sized, well_formed, answer, after}
use Rattle.engines.specs.Engines.{Engine, ours, table_after, accepted_of, entries}

unfoldable pub computed : Engine
unfolding count_ok is_station stations_ok index_of is_asking goes_first answers_now onward larger raised ask_rule send_rule enter_rule leave_rule give_rule take_request_rule take_answer_rule step_rule outcome next_ok due_ok own_ok head_ok new_head empty_cells in_use cell_ok cells_ok record_ok records_ok sized well_formed answer after table_after accepted_of entries
computed = ours
