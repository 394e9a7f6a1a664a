mod CallsLaws
mod EndLaws
mod PacketLaws
mod ToldLaws
