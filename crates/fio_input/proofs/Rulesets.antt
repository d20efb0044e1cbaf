-- Sets of lemmas that attributes name: an attribute takes no name with a dash.
use Rattle.fio_input.proofs.Names.{get_or-put_chunk_below, get_or-put_chunk_at, get_or-put_chunk_above}
use Rattle.fio_input.proofs.History.{state-configure}
use Rattle.fio_input.proofs.Ticks.{counter-append}

pub ruleset stored_chunks = (get_or-put_chunk_below, get_or-put_chunk_at, get_or-put_chunk_above)

pub ruleset later_events = (state-configure, counter-append)
