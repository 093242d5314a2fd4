use Rattle.macs_program.proofs.conversing.converse.Goals as goal

pub returns-in-Show : goal.returns-in-Show
returns-in-Show g c = rw c.in-Show.is c.ask_once.ensures

pub returns-in-Counters : goal.returns-in-Counters
returns-in-Counters g c = rw c.in-Counters.is c.ask_once-in-Counters.ensures

pub returns-in-Keys : goal.returns-in-Keys
returns-in-Keys g c = rw c.in-Keys.is c.ask_once-in-Keys.ensures

pub returns-in-Traffic : goal.returns-in-Traffic
returns-in-Traffic g c = rw c.in-Traffic.is c.ask_once-in-Traffic.ensures

pub returns-in-About : goal.returns-in-About
returns-in-About g c = rw c.in-About.is c.ask_once-in-About.ensures

pub returns-in-Stop : goal.returns-in-Stop
returns-in-Stop g c = rw c.in-Stop.is c.ask_stop.ensures

pub returns-in-Apply : goal.returns-in-Apply
returns-in-Apply g c = rw c.in-Apply.is c.apply_file.ensures
